use Rattle.std.proofs.Common.{◌≡◌, length}
use Rattle.cp_declaration.specs.Lists.{joined}
use Rattle.cp_declaration.proofs.Found.{found}
use Rattle.cp_declaration.proofs.indicator.joined.Given as goal

abbrev pub invariant-items : goal.invariant-items
invariant-items l = found l.preds (joined l.rest) ≡ joined l.cells

abbrev pub decreases-items : goal.decreases-items
decreases-items l = length l.rest
