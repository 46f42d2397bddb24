use Rattle.std.proofs.Common.{Some, ◌∙◌, sym, ap}
use Rattle.cp_term.specs.Preorder.{arguments}
use Rattle.cp_heap.specs.State.{instance_at}
use Rattle.cp_code.specs.Tree.{with_module}
use Rattle.cp_calls.proofs.GoalLaws.{with-at}
use Rattle.cp_calls.proofs.qualifying.argument_of.Goals as goal

pub returns-then-is_marked-clause-instance : goal.returns-then-is_marked-clause-instance
returns-then-is_marked-clause-instance c =
    let h = c.args.heap.now in
    with-at c.args.seer.now c.args.marks.now (arguments (instance_at h c.args.goal.at)) c.args.index (instance_at h c.in-Some.argument.at) c.in-Some.ensures.1
    ∙ ap (λ b. Some (with_module c.args.seer.now b (instance_at h c.in-Some.argument.at))) (sym c.is_marked.ensures ∙ c.if-is_marked.true)
    ∙ ap Some (sym c.in_ok-argument.ensures.posted)

pub returns-clause-instance : goal.returns-clause-instance
returns-clause-instance c =
    let h = c.args.heap.now in
    with-at c.args.seer.now c.args.marks.now (arguments (instance_at h c.args.goal.at)) c.args.index (instance_at h c.in-Some.argument.at) c.in-Some.ensures.1
    ∙ ap (λ b. Some (with_module c.args.seer.now b (instance_at h c.in-Some.argument.at))) (sym c.is_marked.ensures ∙ c.if-is_marked.false)
