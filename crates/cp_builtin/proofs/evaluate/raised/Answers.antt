use Rattle.std.proofs.Common.{sym, ◌∙◌, ap, subst}
use Rattle.std.specs.Prelude.{Err}
use Rattle.cp_term.specs.Numbering.{fresh}
use Rattle.cp_term.specs.Substitution.{apply}
use Rattle.cp_heap.specs.State.{State, substitution}
use Rattle.cp_goal.specs.Evaluation.{why_kind}
use Rattle.cp_goal.specs.Builtins.{Raises}
use Rattle.cp_arith.specs.declared.evaluation.EvalError.TheVariants as errors
use Rattle.cp_arith.specs.Frames.{Evaluates}
use Rattle.cp_builtin.proofs.ClosedLaws.{apply-closed, fresh-closed, why-closed}
use Rattle.cp_builtin.proofs.evaluate.raised.Goals as goal

pub returns-in_ok-at-in-Raised-clause-ended : goal.returns-in_ok-at-in-Raised-clause-ended
returns-in_ok-at-in-Raised-clause-ended c v ends =
    let old : State = c.args.heap.now in
    let new : State = c.import.new.self in
    let e : Evaluates (Err (errors.Raised c.in-Raised.kind)) v = subst (λ x. Evaluates (Err x) v) c.in-Raised.is ends in
    let why = e.0 in
    let closed = why-closed why in
    let made = c.in_ok-at-in-Raised.ensures in
    let same = ap (apply (substitution new)) (made.term ∙ ap (fresh old.variables) e.2 ∙ fresh-closed old.variables (why_kind why) closed)
    ∙ apply-closed (substitution new) (why_kind why) closed in
    (why, e.1, (made.live, ap Raises (sym same)))
