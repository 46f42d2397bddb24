use Rattle.std.proofs.Common.{sym, ◌∙◌}
use Rattle.cp_declaration.specs.Lists.{indicator, indicators}
use Rattle.cp_declaration.proofs.Found.{found-more}
use Rattle.cp_declaration.proofs.indicator.indicators.Goals as goal

pub elements-preserved : goal.elements-preserved
elements-preserved c =
    let three = c.in-Some.three in
    found-more c.elements.preds c.push.new.self c.in-Some-2.pred
    (indicator three.first.now three.second.now three.third.now) (indicators c.elements.rest.now) (indicators three.behind.now)
    c.in-Some.ensures.0 (sym c.in_ok-pred.ensures ∙ c.in-Some-2.is) c.in_ok-push-in-Some-2.ensures.ok
    ∙ c.elements.invariant
