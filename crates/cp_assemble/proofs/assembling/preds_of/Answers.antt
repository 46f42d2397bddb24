use Rattle.std.proofs.Common.{◌++◌, ◌∙◌, ap, sym, subst}
use Rattle.cp_link.specs.Linked.{preds_in}
use Rattle.cp_link.specs.Lawful.{AllHaveBodies}
use Rattle.cp_link.proofs.StepLaws.{flat_mapped}
use Rattle.cp_assemble.proofs.BodyLaws.{both_have}
use Rattle.cp_assemble.proofs.assembling.preds_of.Goals as goal

pub loop-part-preserved : goal.loop-part-preserved
loop-part-preserved c =
    let parts = c.args.parts.now in
    let i = c.loop-part.part-index in
    let x = c.part-item.result in
    let shared = c.args.shared.now in
    let more = c.in_ok-push_preds_in.ensures.preds in (
      more ∙ ap (λ preds. preds ++ preds_in shared x) c.loop-part.invariant.0 ∙ flat_mapped (preds_in shared) parts i x c.loop-part-test.true c.part-item.is,
      subst AllHaveBodies (sym more) (both_have _ _ c.loop-part.invariant.1 c.in_ok-push_preds_in.ensures.bodies),
    )
