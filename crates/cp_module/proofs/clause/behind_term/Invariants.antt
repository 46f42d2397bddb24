use Rattle.std.proofs.Common.{◌≡◌, ◌+◌, ◌*◌, ◌-◌, ◌≤◌, length}
use Rattle.cp_term.specs.Preorder.{drop_terms}
use Rattle.cp_module.proofs.clause.behind_term.Given as goal

abbrev pub invariant-cells : goal.invariant-cells
invariant-cells l = record {
  within : length l.rest ≤ length l.cells;
  left : l.left ≤ 1 + (length l.cells - length l.rest) * 65535;
  value : drop_terms l.left l.rest ≡ drop_terms 1 l.cells;
}

abbrev pub decreases-cells : goal.decreases-cells
decreases-cells l = length l.rest
