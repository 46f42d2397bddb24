use Rattle.std.proofs.Common.{◌≡◌, ◌≤◌, length, drop, reverse}
use Rattle.cp_goal.specs.Folds.{of_terms}
use Rattle.cp_link.specs.Written.{spot_at}
use Rattle.cp_link.proofs.written.spots_of.Given as goal

abbrev pub invariant-cells : goal.invariant-cells
invariant-cells l = (l.at ≤ length l.cells) × (reverse l.spots.items ≡ of_terms (spot_at l.own) (drop l.at l.cells))

abbrev pub decreases-cells : goal.decreases-cells
decreases-cells l = l.at
