use Rattle.std.proofs.Common.{◌≡◌, ◌++◌, ◌∙◌, ap, take}
use Rattle.std.specs.List.{flat_map}
use Rattle.cp_module.specs.Parts.{Part}
use Rattle.cp_link.specs.Imports.{active_in}
use Rattle.cp_link.specs.Linked.{distinct_preds}
use Rattle.cp_link.proofs.StepLaws.{flat_mapped}
use Rattle.cp_assemble.proofs.active.all_active.Goals as goal

pub loop-part-preserved : goal.loop-part-preserved
loop-part-preserved c =
    let ps = c.args.parts.now in
    let i = c.loop-part.part-index in
    let x = c.part-item.result in
    let e : c.in_ok-preds.preds ≡ active_in x.clauses = cc (c.in_ok-preds.ensures) in
    c.in_ok-push_each.ensures (flat_map (λ (p : Part). active_in p.clauses) (take i ps)) c.loop-part.invariant
    ∙ ap (λ qs. distinct_preds (flat_map (λ (p : Part). active_in p.clauses) (take i ps) ++ qs)) e
    ∙ ap distinct_preds (flat_mapped (λ (p : Part). active_in p.clauses) ps i x c.loop-part-test.true c.part-item.is)
