use Rattle.std.proofs.Common.{◌≡◌, ◌++◌, map, take}
use Rattle.cp_link.specs.Linked.{pred_in}
use Rattle.cp_assemble.proofs.preds.push_each.Given as goal

abbrev pub invariant-loop-pred : goal.invariant-loop-pred
invariant-loop-pred l = l.all ≡ l.initial.all ++ map (pred_in l.shared l.part) (take l.pred-index l.preds)
