use Rattle.std.proofs.Common.{sym, ◌∙◌, ap}
use Rattle.cp_declaration.specs.Lists.{indicator, joined}
use Rattle.cp_declaration.proofs.Found.{found-more}
use Rattle.cp_declaration.proofs.Walks.{joined-item}
use Rattle.cp_declaration.proofs.indicator.joined.Goals as goal

pub items-preserved : goal.items-preserved
items-preserved c =
    let three = c.in-Some.three in
    let one = joined-item three.first.now three.second.now three.third.now three.behind.now (sym c.is_comma.ensures ∙ c.if-is_comma.false) in
    found-more c.items.preds c.push.new.self c.in-Some-2.pred
    (indicator three.first.now three.second.now three.third.now) (joined c.items.rest.now) (joined three.behind.now)
    (ap joined c.in-Some.ensures ∙ one) (sym c.in_ok-pred.ensures ∙ c.in-Some-2.is) c.in_ok-push-in-Some-2.ensures.ok
    ∙ c.items.invariant
