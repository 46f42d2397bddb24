use Rattle.std.proofs.Common.{◌≡◌, drop}
use Rattle.cp_link.specs.Refusals.{clash}
use Rattle.cp_link.proofs.refusals.clash.Given as goal

abbrev pub invariant-loop-import : goal.invariant-loop-import
invariant-loop-import l = clash l.earlier (drop l.import-index l.imports) ≡ clash l.earlier l.imports
