use Rattle.std.proofs.Common.{◌≡◌, ◌≤◌, ◌+◌, ◌*◌, take}
use Rattle.std.specs.Prelude.{sum_by}
use Rattle.cp_call.specs.Lane.{cell_wire_size}
use Rattle.cp_call.proofs.wire.wire_size.Given as goal

abbrev pub invariant-loop-cell : goal.invariant-loop-cell
invariant-loop-cell l = (l.size ≡ 2 + sum_by cell_wire_size (take l.cell-index l.cell-items)) × (l.size ≤ 2 + 1028 * l.cell-index)
