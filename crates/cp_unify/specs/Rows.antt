-- Terms that stand side by side in a heap.
use Rattle.std.specs.Prelude.{ℕ, List}
use Rattle.cp_term.specs.declared.cell.Cell.{Cell}
use Rattle.cp_heap.specs.State.{State}
use Rattle.cp_heap.specs.Walk.{waiting, places_from}

-- the cells of so many terms from a place on, with the bindings
abbrev pub row : State → ℕ → ℕ → List Cell
row h first k = waiting h (places_from first k)
