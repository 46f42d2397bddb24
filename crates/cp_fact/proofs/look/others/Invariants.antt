use Rattle.std.proofs.Common.{◌≡◌, take, filter, not}
use Rattle.cp_term.specs.Unification.{unifiable_apart}
use Rattle.cp_call.specs.declared.outcome.FactRow.{FactRow}
use Rattle.cp_fact.proofs.look.others.Given as goal

abbrev pub invariant-loop-row : goal.invariant-loop-row
invariant-loop-row l = l.rows.items ≡ filter (λ (f : FactRow). not (unifiable_apart l.pattern f.fact)) (take l.row-index l.facts)
