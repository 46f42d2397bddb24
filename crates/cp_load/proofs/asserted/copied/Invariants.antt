use Rattle.std.proofs.Common.{◌≡◌, take}
use Rattle.cp_load.proofs.asserted.copied.Given as goal

abbrev pub invariant-cells : goal.invariant-cells
invariant-cells l = l.copy ≡ take l.cell-index l.cells
