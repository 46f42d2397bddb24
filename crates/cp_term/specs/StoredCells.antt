-- The cells that are stored in a term, which are the same whether the term shares them or not.
use Rattle.std.specs.Prelude.{List}
use Rattle.std.specs.Arc.{arc_value}
use Rattle.cp_term.specs.declared.cell.Cell.{Cell}
use Rattle.cp_term.specs.declared.term.StoredCells.{StoredCells}
use Rattle.cp_term.specs.declared.term.StoredCells.TheVariants.{Own, Shared}

abbrev pub stored_cells : StoredCells → List Cell
stored_cells (Own cells) = cells
stored_cells (Shared cells) = arc_value cells
