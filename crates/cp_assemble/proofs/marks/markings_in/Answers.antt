use Rattle.std.proofs.Common.{◌++◌, ◌∙◌, ap}
use Rattle.cp_link.specs.Modules.{one, said}
use Rattle.cp_assemble.specs.Index.{marking_by}
use Rattle.cp_assemble.proofs.StepLaws.{filter_mapped}
use Rattle.cp_assemble.proofs.marks.markings_in.Goals as goal

pub loop-clause-preserved : goal.loop-clause-preserved
loop-clause-preserved c =
    let x = c.clause-item.result in
    c.in_ok-push_marking.ensures
    ∙ ap (λ all. all ++ one (marking_by (said x))) c.loop-clause.invariant
    ∙ filter_mapped (λ d. marking_by (said d)) c.args.clauses.now c.loop-clause.clause-index x c.loop-clause-test.true c.clause-item.is
