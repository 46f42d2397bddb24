use Rattle.std.proofs.Common.{◌≡◌, ◌++◌, take}
use Rattle.cp_term.specs.CellRefs.{cells_at}
use Rattle.cp_term.specs.Numbering.{fresh}
use Rattle.cp_term.proofs.cell_ref.push_refs.Given as goal

abbrev pub invariant-loop-cell : goal.invariant-loop-cell
invariant-loop-cell l = cells_at l.refs ≡ cells_at l.initial.refs ++ fresh l.shift (take l.cell-index l.cells)
