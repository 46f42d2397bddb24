-- Terms in preorder as a graph, for unification by classes of places. A place is the index of a cell, and stands for the
-- term that begins there.
use Rattle.std.specs.Prelude.{◌≡◌, ℕ, zero, suc, ◌+◌, ◌<◌, ◌≤◌, true, length, get_or, drop, List, [], ◌∷◌}
use Rattle.std.specs.List.{flat_map}
use Rattle.std.specs.Prelude.{None}
use Rattle.cp_term.specs.declared.cell.Cell.{Cell}
use Rattle.cp_term.specs.declared.cell.Cell.TheVariants.{Var}
use Rattle.cp_term.specs.declared.places.Graph.{Graph}
use Rattle.cp_term.specs.CellRefs.{variable_of, cells_at}
use Rattle.cp_term.specs.Unifier.{GivesTerms}
use Rattle.cp_term.specs.Preorder.{arity_of, is_terms, drop_terms}

abbrev pub cell_of : List Cell → ℕ → Cell
cell_of cells p = get_or cells p (Var 0)

-- the place behind the term that begins at a place, by the table of all of them
abbrev pub next_of : List ℕ → ℕ → ℕ
next_of ends p = get_or ends p p

-- the place behind k terms, of which the first begins at p
abbrev pub end_of : List ℕ → ℕ → ℕ → ℕ
end_of ends zero p = p
end_of ends (suc k) p = end_of ends k (next_of ends p)

-- the places of k terms one after another, of which the first begins at p
abbrev pub places : List ℕ → ℕ → ℕ → List ℕ
places ends zero p = []
places ends (suc k) p = p ∷ places ends k (next_of ends p)

-- the places of the arguments of the term at p
abbrev pub argument_places : List Cell → List ℕ → ℕ → List ℕ
argument_places cells ends p = places ends (arity_of (cell_of cells p)) (p + 1)

-- the table has the place behind the term at each place from `from` on
abbrev pub EndsFrom : ℕ → List Cell → List ℕ → Type 0
EndsFrom from cells ends = (p : ℕ) → from ≤ p → p < length cells → (p < get_or ends p 0) × (drop (get_or ends p 0) cells ≡ drop_terms 1 (drop p cells))

-- each item
abbrev pub Every : {A : Type 0} → (A → Type 0) → List A → Type 0
Every P [] = Unit {0}
Every P (x ∷ xs) = P x × Every P xs

-- the cells are two terms, and the table is theirs
pub record IsGraph (cells : List Cell) (ends : List ℕ) : Type 0 where
  pub terms : is_terms 2 cells ≡ true
  pub len : length ends ≡ length cells
  pub table : EndsFrom 0 cells ends

-- A term for each variable and for each place, so that each place has the term that its cell and its arguments make.
pub record IsModel (cells : List Cell) (ends : List ℕ) (value : ℕ → List Cell) (term : ℕ → List Cell) : Type 0 where
  pub values : GivesTerms value
  pub terms : (p : ℕ) → p < length cells → is_terms 1 (term p) ≡ true
  pub variables : (p v : ℕ) → p < length cells → cell_of cells p ≡ Var v → term p ≡ value v
  pub compounds : (p : ℕ) → p < length cells → variable_of (cell_of cells p) ≡ None → term p ≡ cell_of cells p ∷ flat_map term (argument_places cells ends p)

-- such terms, by which the terms at 0 and at `second` are the same
pub record Model (cells : List Cell) (ends : List ℕ) (second : ℕ) : Type 0 where
  pub value : ℕ → List Cell
  pub term : ℕ → List Cell
  pub is_model : IsModel cells ends value term
  pub equal : term 0 ≡ term second

-- the graph that is stored
abbrev pub graph_cells : Graph → List Cell
graph_cells g = cells_at g.cells.now

abbrev pub IsStoredGraph : Graph → Type 0
IsStoredGraph g = IsGraph (graph_cells g) g.ends.now

abbrev pub StoredModel : Graph → Type 0
StoredModel g = Model (graph_cells g) g.ends.now g.second
