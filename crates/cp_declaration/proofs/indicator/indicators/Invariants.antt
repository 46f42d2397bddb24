use Rattle.std.proofs.Common.{◌≡◌, length}
use Rattle.cp_declaration.specs.Lists.{indicators}
use Rattle.cp_declaration.proofs.Found.{found}
use Rattle.cp_declaration.proofs.indicator.indicators.Given as goal

abbrev pub invariant-elements : goal.invariant-elements
invariant-elements l = found l.preds (indicators l.rest) ≡ indicators l.cells

abbrev pub decreases-elements : goal.decreases-elements
decreases-elements l = length l.rest
