use Rattle.std.proofs.Common.{◌∙◌}
use Rattle.cp_module.proofs.Reached.{of_file}
use Rattle.cp_module.proofs.judged.cause_of.Goals as goal

pub returns : goal.returns
returns c =
    c.soonest_of.ensures
    ∙ of_file c.args.base.now c.args.first.now c.args.later.now c.args.fault _ _ _ _ _ _ c.new-above.ensures c.in_ok-why.ensures c.in_ok-note.ensures c.in_ok-behind.ensures.causes c.in_ok-behind.ensures.knows c.in_ok-end.ensures
