use Rattle.std.proofs.Common.{◌≡◌, drop}
use Rattle.std.specs.List.{list_any}
use Rattle.cp_link.specs.Imports.{is_imported}
use Rattle.cp_link.proofs.refusals.are_imported.Given as goal

abbrev pub invariant-loop-pred : goal.invariant-loop-pred
invariant-loop-pred l = list_any (is_imported l.imports) (drop l.pred-index l.preds) ≡ list_any (is_imported l.imports) l.preds
