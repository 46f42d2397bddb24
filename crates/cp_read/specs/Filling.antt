-- The cells of a clause, as far as they are within the bounds.
use Rattle.std.specs.Prelude.{◌≡◌, ℕ, Bool, true, false, List, Option, Some, None}
use Rattle.cp_term.specs.declared.cell.Cell.{Cell}
use Rattle.cp_term.specs.Preorder.{IsTerm}
use Rattle.cp_term.specs.Numbering.{IsNumbered}
use Rattle.cp_read.specs.declared.bounds.Bounds.{Bounds}
use Rattle.cp_read.specs.Clauses.{cell_fits, fits}

-- the cell, where it is within the bounds
abbrev pub IsFitting : Option Cell → Cell → ℕ → Type 0
IsFitting (Some c) cell most = (c ≡ cell) × (cell_fits most cell ≡ true)
IsFitting None cell most = cell_fits most cell ≡ false

-- these cells are in the list, where they are within the bounds
abbrev pub IsFilled : Bounds → Bool → List Cell → List Cell → Type 0
IsFilled bounds true list cells = (list ≡ cells) × (fits bounds cells ≡ true)
IsFilled bounds false list cells = fits bounds cells ≡ false

abbrev pub IsWithin : Bounds → Option (List Cell) → List Cell → Type 0
IsWithin bounds (Some list) cells = (list ≡ cells) × (fits bounds cells ≡ true)
IsWithin bounds None cells = fits bounds cells ≡ false

-- cells that are within the bounds are one term, with its variables numbered by first occurrence
abbrev pub IsTermWithin : Bounds → List Cell → Type 0
IsTermWithin bounds cells = fits bounds cells ≡ true → IsTerm cells × IsNumbered cells
