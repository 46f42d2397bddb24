use Rattle.std.proofs.Common.{◌∙◌, ap}
use Rattle.cp_link.specs.Keyed.{noted}
use Rattle.cp_link.proofs.OriginLaws.{origins_more}
use Rattle.cp_link.proofs.import_list.ImportList.with.Goals as goal

pub invariant_of-result : goal.invariant_of-result
invariant_of-result c =
    let pred = c.args.pred in
    origins_more c.self.inside.origins.entries _ c.self.inside.preds _ c.in_ok-key.key c.in_ok-origin.origin pred c.self.invariant c.in_ok-key.ensures
    (c.in_ok-origin.ensures ∙ ap (λ o. noted o pred.module) c.get.ensures.value)
    c.in_ok-insert.ensures.entries c.in_ok-push.ensures.ok
