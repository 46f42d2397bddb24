-- One more cell, within the bounds or past them.
use Rattle.std.proofs.Common.{◌≡◌, ◌<◌, ◌≤◌, ℕ, suc, Bool, true, false, ◌&&◌, List, [], ◌∷◌, ◌++◌, length, map, refl, sym, ◌∙◌, ap, subst, arith, append_assoc, append-nil}
use Rattle.std.proofs.lemmas.Bool.{le-leb, leb-true, and_parts, and_from}
use Rattle.std.proofs.lemmas.List.{reverse-append, map-append}
use Rattle.std.proofs.Math.Seq.{drop-length, drop-cons, take-suc}
use Rattle.std.specs.Borrow.{Bor}
use Rattle.cp_read.specs.declared.draft.Piece.{Piece}
use Rattle.cp_read.specs.Drafts.{operator_cell, piece_seen, cells_of}
use Rattle.cp_read.proofs.lemmas.CloseLaws.{cells_of-append}
use Rattle.std.proofs.lemmas.List.Folds.{list_all-append}
use Rattle.std.specs.Prelude.{nat_le, Some, None, reverse, drop, take, get_or}
use Rattle.std.specs.List.{list_all}
use Rattle.cp_term.specs.declared.cell.Cell.{Cell}
use Rattle.cp_read.specs.declared.bounds.Bounds.{Bounds}
use Rattle.cp_read.specs.Clauses.{cell_fits, fits}
use Rattle.cp_read.specs.Filling.{IsFitting, IsFilled, IsWithin}

false_or : (b : Bool) → (b ≡ true → ⊥) → b ≡ false
false_or true h = absurd (h refl)
false_or false h = refl

not_both : (b : Bool) → b ≡ true → b ≡ false → ⊥
not_both true h g = let none : ⊥ = cc in none
not_both false h g = let none : ⊥ = cc in none

longer : (cells : List Cell) (c : Cell) → length (cells ++ c ∷ []) ≡ suc (length cells)
longer [] c = refl
longer (d ∷ cells) c = ap suc (longer cells c)

module _ (bounds : Bounds) (cells : List Cell) (c : Cell) where
  parts : fits bounds (cells ++ c ∷ []) ≡ true → (nat_le (length (cells ++ c ∷ [])) (bounds.cells) ≡ true) × (list_all (cell_fits (bounds.name)) cells ≡ true) × (cell_fits (bounds.name) c ≡ true)
  parts h =
      let p = and_parts (nat_le (length (cells ++ c ∷ [])) (bounds.cells)) (list_all (cell_fits (bounds.name)) (cells ++ c ∷ [])) h in
      let q = and_parts (list_all (cell_fits (bounds.name)) cells) (list_all (cell_fits (bounds.name)) (c ∷ [])) (sym (list_all-append (cell_fits (bounds.name)) cells (c ∷ [])) ∙ p.1) in
      (p.0, q.0, (and_parts (cell_fits (bounds.name) c) true (q.1)).0)

  shorter : fits bounds (cells ++ c ∷ []) ≡ true → fits bounds cells ≡ true
  shorter h =
      let p = parts h in
      let le : length (cells ++ c ∷ []) ≤ bounds.cells = leb-true (length (cells ++ c ∷ [])) (bounds.cells) (p.0) in
      and_from (nat_le (length cells) (bounds.cells)) (list_all (cell_fits (bounds.name)) cells) (le-leb (length cells) (bounds.cells) (omega (arith, le, longer cells c))) (p.1)

  pub past : fits bounds cells ≡ false → fits bounds (cells ++ c ∷ []) ≡ false
  past h = false_or (fits bounds (cells ++ c ∷ [])) (λ g. not_both (fits bounds cells) (shorter g) h)

  pub too_many : bounds.cells ≤ length cells → fits bounds (cells ++ c ∷ []) ≡ false
  too_many h = false_or (fits bounds (cells ++ c ∷ [])) (λ g.
      let p = parts g in
      let le : length (cells ++ c ∷ []) ≤ bounds.cells = leb-true (length (cells ++ c ∷ [])) (bounds.cells) (p.0) in
      omega (arith, h, le, longer cells c))

  pub unfit : cell_fits (bounds.name) c ≡ false → fits bounds (cells ++ c ∷ []) ≡ false
  unfit h = false_or (fits bounds (cells ++ c ∷ [])) (λ g. not_both (cell_fits (bounds.name) c) ((parts g).2) h)

  pub one_more : fits bounds cells ≡ true → length cells < bounds.cells → cell_fits (bounds.name) c ≡ true → fits bounds (cells ++ c ∷ []) ≡ true
  one_more h lt g =
      let p = and_parts (nat_le (length cells) (bounds.cells)) (list_all (cell_fits (bounds.name)) cells) h in
      and_from (nat_le (length (cells ++ c ∷ [])) (bounds.cells)) (list_all (cell_fits (bounds.name)) (cells ++ c ∷ []))
      (le-leb (length (cells ++ c ∷ [])) (bounds.cells) (omega (arith, lt, longer cells c)))
      (list_all-append (cell_fits (bounds.name)) cells (c ∷ []) ∙ and_from (list_all (cell_fits (bounds.name)) cells) (cell_fits (bounds.name) c && true) (p.1) (and_from (cell_fits (bounds.name) c) true g refl))

-- the steps of `add`
pub stays_past : (bounds : Bounds) (within : Bool) (list cells : List Cell) (c : Cell) → within ≡ false → IsFilled bounds within list cells → IsFilled bounds false list (cells ++ c ∷ [])
stays_past bounds true list cells c e h = absurd (not_both true refl e)
stays_past bounds false list cells c e h = past bounds cells c h

pub gets_past : (bounds : Bounds) (within : Bool) (list cells : List Cell) (c : Cell) → bounds.cells ≤ length list → IsFilled bounds within list cells → IsFilled bounds false list (cells ++ c ∷ [])
gets_past bounds true list cells c e h = too_many bounds cells c (subst (λ (l : List Cell). bounds.cells ≤ length l) (h.0) e)
gets_past bounds false list cells c e h = past bounds cells c h

pub is_unfit : (bounds : Bounds) (within : Bool) (list cells : List Cell) (c : Cell) → cell_fits (bounds.name) c ≡ false → IsFilled bounds within list cells → IsFilled bounds false list (cells ++ c ∷ [])
is_unfit bounds true list cells c e h = unfit bounds cells c e
is_unfit bounds false list cells c e h = past bounds cells c h

pub is_added : (bounds : Bounds) (within : Bool) (list cells new : List Cell) (d c : Cell) → within ≡ true → length list < bounds.cells → IsFitting (Some d) c (bounds.name) → new ≡ list ++ d ∷ [] → IsFilled bounds within list cells →
    IsFilled bounds true new (cells ++ c ∷ [])
is_added bounds true list cells new d c e lt (same, fitting) now h = (
  now ∙ ap (λ (l : List Cell). l ++ d ∷ []) (h.0) ∙ ap (λ (x : Cell). cells ++ x ∷ []) same,
  one_more bounds cells c (h.1) (subst (λ (l : List Cell). length l < bounds.cells) (h.0) lt) fitting,
)
is_added bounds false list cells new d c e lt fitting now h = absurd (not_both false e refl)

pub nothing_filled : (bounds : Bounds) → IsFilled bounds true [] []
nothing_filled bounds = (refl, and_from (nat_le 0 (bounds.cells)) true (le-leb 0 (bounds.cells) (omega arith)) refl)

pub is_within : (bounds : Bounds) (within : Bool) (list cells : List Cell) → within ≡ true → IsFilled bounds within list cells → IsWithin bounds (Some list) cells
is_within bounds true list cells e h = h
is_within bounds false list cells e h = absurd (not_both false e refl)

pub is_past : (bounds : Bounds) (within : Bool) (list cells : List Cell) → within ≡ false → IsFilled bounds within list cells → IsWithin bounds None cells
is_past bounds true list cells e h = absurd (not_both true refl e)
is_past bounds false list cells e h = h

-- ---- the operators of a piece, from the last to the first

pub none_yet : (cells : List Cell) (ops : List (Bor (List ℕ))) → cells ++ map operator_cell (reverse (drop (length ops) ops)) ≡ cells
none_yet cells ops = ap (λ (l : List (Bor (List ℕ))). cells ++ map operator_cell (reverse l)) (drop-length ops) ∙ append-nil cells

pub one_operator : (cells : List Cell) (ops : List (Bor (List ℕ))) (left : ℕ) (op : Bor (List ℕ)) → left < length ops → op ≡ get_or ops left op →
    (cells ++ map operator_cell (reverse (drop (suc left) ops))) ++ operator_cell op ∷ [] ≡ cells ++ map operator_cell (reverse (drop left ops))
one_operator cells ops left op within is =
    append_assoc cells (map operator_cell (reverse (drop (suc left) ops))) (operator_cell op ∷ [])
    ∙ ap (λ (l : List Cell). cells ++ l) (sym (map-append operator_cell (reverse (drop (suc left) ops)) (op ∷ [])))
    ∙ ap (λ (l : List (Bor (List ℕ))). cells ++ map operator_cell l) (sym (reverse-append (op ∷ []) (drop (suc left) ops)))
    ∙ ap (λ (o : Bor (List ℕ)). cells ++ map operator_cell (reverse (o ∷ drop (suc left) ops))) is
    ∙ ap (λ (l : List (Bor (List ℕ))). cells ++ map operator_cell (reverse l)) (sym (drop-cons ops left op within))

-- ---- pieces in a row

pub piece_more : (pieces : List Piece) (at : ℕ) (p : Piece) → at < length pieces → p ≡ get_or pieces at p →
    cells_of (map piece_seen (take at pieces)) ++ piece_seen p ≡ cells_of (map piece_seen (take (suc at) pieces))
piece_more pieces at p within is =
    sym (cells_of-append (map piece_seen (take at pieces)) (piece_seen p ∷ []) ∙ ap (λ (l : List Cell). cells_of (map piece_seen (take at pieces)) ++ l) (append-nil (piece_seen p)))
    ∙ ap cells_of (sym (map-append piece_seen (take at pieces) (p ∷ [])))
    ∙ ap (λ (q : Piece). cells_of (map piece_seen (take at pieces ++ q ∷ []))) is
    ∙ ap (λ (l : List Piece). cells_of (map piece_seen l)) (sym (take-suc pieces at p within))
