use Rattle.std.proofs.Common.{◌∙◌, ap}
use Rattle.cp_module.specs.Causes.{is_in}
use Rattle.cp_link.specs.Keyed.{named}
use Rattle.cp_link.proofs.KeyLaws.{found}
use Rattle.cp_link.proofs.pred_list.PredList.has.Goals as goal

pub returns : goal.returns
returns c =
    let key = c.in_ok-key.key in
    c.contains.ensures
    ∙ found c.self.inside.keys.keys c.self.inside.preds key c.self.invariant
    ∙ ap (λ ps. is_in ps (named key)) c.self.view_is
    ∙ ap (is_in c.args.self.now) c.in_ok-key.ensures
