use Rattle.std.proofs.Common.{◌≡◌, ◌≤◌, length, drop, reverse}
use Rattle.cp_goal.specs.Folds.{of_terms}
use Rattle.cp_assertion.specs.RegularTypes.{part_of}
use Rattle.cp_assertion.proofs.body.parts_of.Given as goal

abbrev pub invariant-cells : goal.invariant-cells
invariant-cells l = (l.at ≤ length l.cells) × (reverse l.parts.items ≡ of_terms part_of (drop l.at l.cells))

abbrev pub decreases-cells : goal.decreases-cells
decreases-cells l = l.at
