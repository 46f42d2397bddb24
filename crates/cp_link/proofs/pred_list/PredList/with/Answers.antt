use Rattle.cp_link.proofs.KeyLaws.{listed_more}
use Rattle.cp_link.proofs.pred_list.PredList.with.Goals as goal

pub invariant_of-result : goal.invariant_of-result
invariant_of-result c =
    listed_more c.self.inside.keys.keys _ c.self.inside.preds _ c.in_ok-key.key c.args.pred c.self.invariant c.in_ok-key.ensures c.in_ok-insert.ensures.keys c.in_ok-push.ensures.ok
