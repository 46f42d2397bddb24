-- The cells of a clause as far as it was read.
use Rattle.std.specs.Prelude.{ℕ, List, [], ◌∷◌, ◌++◌, map, reverse, pos, codes}
use Rattle.std.specs.Borrow.{Bor}
use Rattle.cp_term.specs.declared.cell.Cell.{Cell}
use Rattle.cp_term.specs.declared.cell.Cell.TheVariants.{Var, Int, Atom, Func}
use Rattle.cp_read.specs.declared.draft.DraftCell.{DraftCell}
use Rattle.cp_read.specs.declared.draft.DraftCell.TheVariants as drafts
use Rattle.cp_read.specs.declared.draft.Piece.{Piece}
use Rattle.cp_read.specs.declared.draft.Draft.TheInside.{Inside}

abbrev pub cell_seen : DraftCell → Cell
cell_seen (drafts.Var v) = Var v
cell_seen (drafts.Int i) = Int i
cell_seen (drafts.Atom a) = Atom a.now
cell_seen (drafts.Func f k) = Func f.now k

abbrev pub operator_cell : Bor (List ℕ) → Cell
operator_cell name = Func name.now 2

-- the operators, the last one first, and the cell
abbrev pub piece_seen : Piece → List Cell
piece_seen p = map operator_cell (reverse p.operators.items) ++ cell_seen p.cell ∷ []

abbrev pub pieces_in : Inside → List (List Cell)
pieces_in d = map piece_seen d.pieces.items

-- the cells in a row
abbrev pub cells_of : List (List Cell) → List Cell
cells_of [] = []
cells_of (p ∷ ps) = p ++ cells_of ps

-- the pieces of the list of these character codes, but for its end
abbrev pub code_pieces : List ℕ → List (List Cell)
code_pieces [] = []
code_pieces (c ∷ cs) = (Func (codes ".") 2 ∷ []) ∷ (Int (pos c) ∷ []) ∷ code_pieces cs
