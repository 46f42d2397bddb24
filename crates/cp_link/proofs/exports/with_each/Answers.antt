use Rattle.std.proofs.Common.{◌++◌, ◌∙◌, ap, append_assoc}
use Rattle.cp_link.specs.Modules.{distinct}
use Rattle.cp_link.proofs.exports.with_each.Goals as goal

pub loop-pred-preserved : goal.loop-pred-preserved
loop-pred-preserved c = λ before e.
    c.in_ok-longer.ensures (before ++ c.loop-pred.yielded) (c.loop-pred.invariant before e) ∙ ap distinct (append_assoc before c.loop-pred.yielded _)
