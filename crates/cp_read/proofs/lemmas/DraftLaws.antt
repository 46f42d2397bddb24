-- The pieces of a draft.
use Rattle.std.proofs.Common.{◌≡◌, ℕ, ◌<◌, List, [], ◌∷◌, ◌++◌, length, map, refl, sym, ◌∙◌, ap, subst}
use Rattle.std.proofs.lemmas.List.{reverse-append, map-set, get_or-map, length-map}
use Rattle.std.specs.Prelude.{reverse, slice_set, slice_index_or, codes, pos}
use Rattle.std.specs.Borrow.{Bor}
use Rattle.cp_term.specs.declared.cell.Cell.{Cell}
use Rattle.cp_term.specs.declared.cell.Cell.TheVariants.{Int, Func}
use Rattle.cp_read.specs.declared.draft.Piece.{Piece}
use Rattle.cp_read.specs.Drafts.{cell_seen, operator_cell, piece_seen, code_pieces}

-- one more operator stands in front
pub taken : (a b : Piece) (name : Bor (List ℕ)) → b.operators.items ≡ a.operators.items ++ name ∷ [] → b.cell ≡ a.cell →
    piece_seen b ≡ Func name.now 2 ∷ piece_seen a
taken a b name more same =
    ap (λ ns. map operator_cell (reverse ns) ++ cell_seen b.cell ∷ []) more
    ∙ ap (λ ns. map operator_cell ns ++ cell_seen b.cell ∷ []) (reverse-append a.operators.items (name ∷ []))
    ∙ ap (λ cell. Func name.now 2 ∷ map operator_cell (reverse a.operators.items) ++ cell_seen cell ∷ []) same

pub taken_at : (ps : List Piece) (pieces : List (List Cell)) (at : ℕ) (a b : Piece) (name : Bor (List ℕ)) →
    map piece_seen ps ≡ pieces → at < length pieces → a ≡ slice_index_or ps at a →
    b.operators.items ≡ a.operators.items ++ name ∷ [] → b.cell ≡ a.cell →
    map piece_seen (slice_set ps at b) ≡ slice_set pieces at (Func name.now 2 ∷ slice_index_or pieces at [])
taken_at ps pieces at a b name view within is more same =
    let inside : at < length (map piece_seen ps) = subst (λ (l : List (List Cell)). at < length l) (sym view) within in
    map-set piece_seen ps at b
    ∙ ap (λ p. slice_set (map piece_seen ps) at p) (taken a b name more same)
    ∙ ap (λ p. slice_set (map piece_seen ps) at (Func name.now 2 ∷ p)) (ap piece_seen is ∙ sym (get_or-map piece_seen ps at a [] (subst (λ (n : ℕ). at < n) (length-map ps piece_seen) inside)))
    ∙ ap (λ l. slice_set l at (Func name.now 2 ∷ slice_index_or l at [])) view

-- another cell stands in the place of a piece
pub put_at : (ps : List Piece) (pieces : List (List Cell)) (at : ℕ) (b : Piece) →
    map piece_seen ps ≡ pieces → b.operators.items ≡ [] → map piece_seen (slice_set ps at b) ≡ slice_set pieces at (cell_seen b.cell ∷ [])
put_at ps pieces at b view none =
    map-set piece_seen ps at b
    ∙ ap (λ (ns : List (Bor (List ℕ))). slice_set (map piece_seen ps) at (map operator_cell (reverse ns) ++ cell_seen b.cell ∷ [])) none
    ∙ ap (λ (l : List (List Cell)). slice_set l at (cell_seen b.cell ∷ [])) view

-- one more character code
pub code_pieces-more : (cs : List ℕ) (c : ℕ) → code_pieces (cs ++ c ∷ []) ≡ code_pieces cs ++ (Func (codes ".") 2 ∷ []) ∷ (Int (pos c) ∷ []) ∷ []
code_pieces-more [] c = refl
code_pieces-more (d ∷ cs) c = ap (λ (ps : List (List Cell)). (Func (codes ".") 2 ∷ []) ∷ (Int (pos d) ∷ []) ∷ ps) (code_pieces-more cs c)
