use Rattle.std.proofs.Common.{◌++◌, ◌∙◌, ap, append_assoc}
use Rattle.cp_module.specs.Causes.{shares}
use Rattle.cp_link.specs.Modules.{one, distinct}
use Rattle.cp_link.proofs.exports.with_mentions.Goals as goal

pub returns : goal.returns
returns c = λ before e.
    let preds = c.in_ok-preds.preds in
    let found = c.in_ok-found.found in
    c.in_ok-longer.ensures (before ++ preds) (c.in_ok-more.ensures before e)
    ∙ ap distinct (append_assoc before preds (one found))
    ∙ ap (λ ps. distinct (before ++ (ps ++ one found))) c.in_ok-preds.ensures
    ∙ ap (λ o. distinct (before ++ (shares c.args.clause.now ++ one o))) c.in_ok-found.ensures
