use Rattle.std.proofs.Common.{◌∷◌, [], ◌++◌, ◌∙◌, ap, map, take}
use Rattle.cp_term.specs.declared.pred_name.PredName.{PredName}
use Rattle.cp_link.specs.Linked.{distinct_names}
use Rattle.cp_link.proofs.StepLaws.{mapped}
use Rattle.cp_assemble.proofs.active.modules_of.Goals as goal

pub loop-pred-preserved : goal.loop-pred-preserved
loop-pred-preserved c =
    let ps = c.args.preds.now in
    let i = c.loop-pred.pred-index in
    let f = λ (p : PredName). p.module in
    c.in_ok-push_name.ensures (map f (take i ps)) c.loop-pred.invariant
    ∙ ap (λ n. distinct_names (map f (take i ps) ++ n ∷ [])) c.in_ok-name.ensures.cases
    ∙ ap distinct_names (mapped f ps i c.pred-item.result c.loop-pred-test.true c.pred-item.is)
