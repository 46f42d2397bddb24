use Rattle.std.proofs.Common.{◌≡◌, ◌<◌, ◌^◌, max, drop}
use Rattle.cp_term.specs.CellRefs.{cells_at}
use Rattle.cp_term.specs.Numbering.{next_variable}
use Rattle.cp_term.proofs.cell_ref.next_number.Given as goal

abbrev pub invariant-loop-cell : goal.invariant-loop-cell
invariant-loop-cell l = (l.next < 2 ^ 34) × (max l.next (next_variable (cells_at (drop l.cell-index l.refs))) ≡ next_variable (cells_at l.refs))
