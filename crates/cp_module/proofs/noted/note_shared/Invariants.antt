use Rattle.std.proofs.Common.{◌≡◌, drop}
use Rattle.cp_declaration.specs.declared.indicator.Indicator.{Indicator}
use Rattle.cp_module.specs.Causes.{is_in}
use Rattle.cp_module.specs.Above.{known_in, with_sharing}
use Rattle.cp_module.proofs.noted.note_shared.Given as goal

abbrev pub invariant-loop-pred : goal.invariant-loop-pred
invariant-loop-pred l = (p : Indicator) → with_sharing (is_in (drop l.pred-index l.preds) p) (known_in l.above p) ≡ with_sharing (is_in l.preds p) (known_in l.initial.above p)
