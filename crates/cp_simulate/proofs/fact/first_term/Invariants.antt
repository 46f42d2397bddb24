use Rattle.std.proofs.Common.{◌≡◌, ◌+◌, ◌-◌, ◌*◌, ◌≤◌, ◌++◌, length, drop}
use Rattle.cp_term.specs.Preorder.{take_terms}
use Rattle.cp_simulate.proofs.fact.first_term.Given as goal

abbrev pub invariant-cells : goal.invariant-cells
invariant-cells l = record {
  within : l.at ≤ length l.cells;
  left : l.left ≤ 1 + l.at * 65535;
  first : l.first ++ take_terms l.left (drop l.at l.cells) ≡ take_terms 1 l.cells;
}

abbrev pub decreases-cells : goal.decreases-cells
decreases-cells l = length l.cells - l.at
