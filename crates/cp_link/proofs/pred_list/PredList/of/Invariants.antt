use Rattle.std.proofs.Common.{◌≡◌, take}
use Rattle.cp_link.proofs.pred_list.PredList.of.Given as goal

abbrev pub invariant-loop-pred : goal.invariant-loop-pred
invariant-loop-pred l = l.all ≡ take l.pred-index l.preds
