-- How a goal that was called has ended on a heap.
use Rattle.std.specs.Prelude.{◌≡◌, ◌<◌, ℕ, List, length, Option, Some, None}
use Rattle.cp_term.specs.declared.cell.Cell.{Cell}
use Rattle.cp_term.specs.declared.pred_name.PredName.{PredName}
use Rattle.cp_term.specs.Substitution.{Substitution}
use Rattle.cp_heap.specs.State.{State, substitution, instance_at}
use Rattle.cp_goal.specs.declared.builtin.Builtin.{Builtin}
use Rattle.cp_goal.specs.Builtins.{End, Succeeds, Fails, Raises, builtin, ball, context}
use Rattle.cp_builtin.specs.declared.ended.Ended.{Ended}
use Rattle.cp_builtin.specs.declared.ended.Ended.TheVariants as ended
use Rattle.cp_builtin.specs.declared.outcome.Outcome1.{Outcome1}
use Rattle.cp_builtin.specs.declared.outcome.Outcome1.TheVariants as outcome

-- this end, with the substitution and the variables of this heap; the kind of an error stands on it
abbrev pub HasEnded : State → Ended → End → Type 0
HasEnded h ended.Succeeds e = e ≡ Succeeds (substitution h) h.variables
HasEnded h ended.Fails e = e ≡ Fails
HasEnded h (ended.Raises r) e = (r.at < length h.terms) × (e ≡ Raises (instance_at h r.at))

-- the same, where the ball of an error was made in the context of this predicate
abbrev pub IsOutcome : State → PredName → Outcome1 → End → Type 0
IsOutcome h p outcome.Succeeds e = e ≡ Succeeds (substitution h) h.variables
IsOutcome h p outcome.Fails e = e ≡ Fails
IsOutcome h p (outcome.Raises t) e = (kind : List Cell) × (e ≡ Raises kind) × (t ≡ ball kind (context p.module p.name p.arity))

-- how a builtin with these arguments ends; no other goal is called here
abbrev pub end_of_goal : Option Builtin → List (List Cell) → Substitution → ℕ → End
end_of_goal (Some goal) arguments s next = builtin goal arguments s next
end_of_goal None arguments s next = Fails
