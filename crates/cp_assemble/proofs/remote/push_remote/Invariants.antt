use Rattle.std.proofs.Common.{◌≡◌, ◌++◌, map, take}
use Rattle.cp_link.specs.Linked.{remote_pred}
use Rattle.cp_assemble.proofs.remote.push_remote.Given as goal

abbrev pub invariant-loop-pred : goal.invariant-loop-pred
invariant-loop-pred l = l.all ≡ l.initial.all ++ map (remote_pred l.modules) (take l.pred-index l.preds)
