use Rattle.std.proofs.Common.{◌∙◌, ap, take}
use Rattle.std.specs.List.{flat_map}
use Rattle.cp_link.specs.Modules.{mentions, distinct}
use Rattle.cp_link.proofs.StepLaws.{flat_mapped}
use Rattle.cp_link.proofs.exports.own_list.Goals as goal

pub loop-clause-preserved : goal.loop-clause-preserved
loop-clause-preserved c =
    let cs = c.args.clauses.now in
    let i = c.loop-clause.clause-index in
    c.in_ok-longer.ensures (flat_map mentions (take i cs)) c.loop-clause.invariant
    ∙ ap distinct (flat_mapped mentions cs i c.clause-item.result c.loop-clause-test.true c.clause-item.is)
