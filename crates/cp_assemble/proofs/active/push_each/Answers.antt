use Rattle.std.proofs.Common.{◌++◌, ◌∙◌, ap, append_assoc}
use Rattle.cp_link.specs.Linked.{distinct_preds}
use Rattle.cp_assemble.proofs.active.push_each.Goals as goal

pub loop-pred-preserved : goal.loop-pred-preserved
loop-pred-preserved c = λ before e.
    c.in_ok-push_new.ensures (before ++ c.loop-pred.yielded) (c.loop-pred.invariant before e) ∙ ap distinct_preds (append_assoc before c.loop-pred.yielded _)
