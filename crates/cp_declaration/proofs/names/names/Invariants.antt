use Rattle.std.proofs.Common.{◌≡◌, length}
use Rattle.cp_declaration.specs.Lists.{names}
use Rattle.cp_declaration.proofs.Found.{found}
use Rattle.cp_declaration.proofs.names.names.Given as goal

abbrev pub invariant-elements : goal.invariant-elements
invariant-elements l = found l.names (names l.rest) ≡ names l.cells

abbrev pub decreases-elements : goal.decreases-elements
decreases-elements l = length l.rest
