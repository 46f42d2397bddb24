use Rattle.std.proofs.Common.{◌≡◌, map, take}
use Rattle.cp_term.specs.declared.pred_name.PredName.{PredName}
use Rattle.cp_link.specs.Linked.{distinct_names}
use Rattle.cp_assemble.proofs.active.modules_of.Given as goal

abbrev pub invariant-loop-pred : goal.invariant-loop-pred
invariant-loop-pred l = l.all ≡ distinct_names (map (λ (p : PredName). p.module) (take l.pred-index l.preds))
