use Rattle.std.proofs.Common.{◌≡◌, ◌≤◌, length, drop}
use Rattle.cp_goal.specs.Folds.{of_terms}
use Rattle.cp_assertion.specs.Formulas.{part_of, stack_shown}
use Rattle.cp_assertion.proofs.formula.parts_of.Given as goal

abbrev pub invariant-cells : goal.invariant-cells
invariant-cells l = (l.at ≤ length l.cells) × (stack_shown l.parts.items ≡ of_terms (part_of l.arity) (drop l.at l.cells))

abbrev pub decreases-cells : goal.decreases-cells
decreases-cells l = l.at
