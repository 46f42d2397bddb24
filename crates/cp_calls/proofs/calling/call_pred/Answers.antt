use Rattle.std.proofs.Common.{length, ◌∙◌, ap}
use Rattle.cp_heap.specs.State.{instance_at}
use Rattle.cp_term.specs.Preorder.{arguments}
use Rattle.cp_calls.proofs.GoalLaws.{qualified-length}
use Rattle.cp_calls.proofs.calling.call_pred.Goals as goal

pub call_kind-requires-clause-arity : goal.call_kind-requires-clause-arity
call_kind-requires-clause-arity c =
    ap (λ t. length (arguments t)) c.in_ok-goal.ensures.instance
    ∙ qualified-length c.args.seer.now c.args.pred.now.goals (instance_at c.args.run.now.heap c.args.goal.at)
    ∙ c.requires.arity
