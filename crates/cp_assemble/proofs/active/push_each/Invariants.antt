use Rattle.std.proofs.Common.{◌≡◌, ◌++◌, List}
use Rattle.cp_term.specs.declared.pred_name.PredName.{PredName}
use Rattle.cp_link.specs.Linked.{distinct_preds}
use Rattle.cp_assemble.proofs.active.push_each.Given as goal

abbrev pub invariant-loop-pred : goal.invariant-loop-pred
invariant-loop-pred l = (before : List PredName) → l.initial.all ≡ distinct_preds before → l.all ≡ distinct_preds (before ++ l.yielded)
