use Rattle.std.proofs.Common.{◌≡◌, length}
use Rattle.cp_declaration.specs.Lists.{are_packages}
use Rattle.cp_declaration.proofs.names.are_packages.Given as goal

abbrev pub invariant-elements : goal.invariant-elements
invariant-elements l = are_packages l.rest ≡ are_packages l.cells

abbrev pub decreases-elements : goal.decreases-elements
decreases-elements l = length l.rest
