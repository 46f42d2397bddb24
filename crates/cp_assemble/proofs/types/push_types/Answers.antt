use Rattle.std.proofs.Common.{◌++◌, ◌∙◌, ap, append_assoc}
use Rattle.cp_link.specs.Modules.{one, said}
use Rattle.cp_link.specs.Linked.{type_by}
use Rattle.cp_assemble.proofs.StepLaws.{filter_mapped}
use Rattle.cp_assemble.proofs.types.push_types.Goals as goal

pub loop-clause-preserved : goal.loop-clause-preserved
loop-clause-preserved c =
    let clauses = c.args.clauses.now in
    let i = c.loop-clause.clause-index in
    let x = c.clause-item.result in
    c.in_ok-push_type.ensures
    ∙ ap (λ rows. rows ++ one (type_by (said x))) c.loop-clause.invariant
    ∙ append_assoc _ _ (one (type_by (said x)))
    ∙ ap (λ rows. c.args.all.now ++ rows) (filter_mapped (λ d. type_by (said d)) clauses i x c.loop-clause-test.true c.clause-item.is)
