-- Classes of places that have to have the same term (congruence closure), as a forest in which each place has a parent
-- that does not come after it, and which is itself only at the root of a class.
use Rattle.std.specs.Prelude.{◌≡◌, ◌⊎◌, ℕ, zero, suc, ◌<◌, ◌≤◌, length, get_or, map, List, [], ◌∷◌, ◌++◌, None}
use Rattle.cp_term.specs.declared.cell.Cell.{Cell}
use Rattle.cp_term.specs.declared.cell.Cell.TheVariants.{Var}
use Rattle.cp_term.specs.declared.classes.Pair.{Pair}
use Rattle.cp_term.specs.CellRefs.{variable_of}
use Rattle.cp_term.specs.declared.places.Graph.{Graph}
use Rattle.cp_term.specs.TermGraph.{cell_of, next_of, argument_places, Model, graph_cells}

-- a labelling gives the places of each pair the same
abbrev pub Agree : {A : Type 0} → (ℕ → A) → List Pair → Type 0
Agree f [] = Unit {0}
Agree f (p ∷ ps) = (f p.left ≡ f p.right) × Agree f ps

abbrev pub AreWithin : ℕ → List Pair → Type 0
AreWithin n [] = Unit {0}
AreWithin n (p ∷ ps) = (p.left < n) × (p.right < n) × AreWithin n ps

-- the pairs of k terms on each side, one after another
abbrev pub pairs_of : List ℕ → ℕ → ℕ → ℕ → List Pair
pairs_of ends zero x y = []
pairs_of ends (suc k) x y = record { left = x; right = y } ∷ pairs_of ends k (next_of ends x) (next_of ends y)

-- no parent comes after its place
abbrev pub Falls : List ℕ → Type 0
Falls parents = (p : ℕ) → p < length parents → get_or parents p 0 ≤ p

-- the classes of the forest are those of this function, which gives each place the root of its class
pub record IsForest (parents : List ℕ) (root : ℕ → ℕ) : Type 0 where
  pub above : (p : ℕ) → p < length parents → root (get_or parents p 0) ≡ root p
  pub top : (p : ℕ) → p < length parents → get_or parents p 0 ≡ p → root p ≡ p
  pub below : (p : ℕ) → p < length parents → root p ≤ p
  pub once : (p : ℕ) → p < length parents → root (root p) ≡ root p

-- The pairs to begin with: labellings for which they agree make the two terms one, and each variable one. Where a
-- variable occurs first is `first`.
pub record Begins (cells : List Cell) (ends : List ℕ) (second : ℕ) (pairs : List Pair) : Type 0 where
  pub first : ℕ → ℕ
  pub first_within : (v : ℕ) → first v < length cells
  pub within : AreWithin (length cells) pairs
  pub sound : (m : Model cells ends second) → Agree m.term pairs
  pub equal : (f : ℕ → ℕ) → Agree f pairs → f 0 ≡ f second
  pub variables : (f : ℕ → ℕ) → Agree f pairs → (p v : ℕ) → p < length cells → cell_of cells p ≡ Var v → f p ≡ f (first v)

-- The labelling makes the two terms one, each variable one, and the arguments of the terms of a class.
pub record IsClosed (cells : List Cell) (ends : List ℕ) (second : ℕ) (first : ℕ → ℕ) (root : ℕ → ℕ) (schemas : List ℕ) (f : ℕ → ℕ) : Type 0 where
  pub equal : f 0 ≡ f second
  pub variables : (p v : ℕ) → p < length cells → cell_of cells p ≡ Var v → f p ≡ f (first v)
  pub compounds : (p : ℕ) → p < length cells → variable_of (cell_of cells p) ≡ None
      → map f (argument_places cells ends (get_or schemas (root p) 0)) ≡ map f (argument_places cells ends p)

-- Each class has a schema, which is a place of the class, and one of a term that is no variable if the class has one.
pub record HasSchemas (cells : List Cell) (root : ℕ → ℕ) (schemas : List ℕ) : Type 0 where
  pub len : length schemas ≡ length cells
  pub within : (p : ℕ) → p < length cells → get_or schemas p 0 < length cells
  pub inside : (p : ℕ) → p < length cells → root (get_or schemas (root p) 0) ≡ root p
  pub same : (p : ℕ) → p < length cells → variable_of (cell_of cells p) ≡ None → cell_of cells (get_or schemas (root p) 0) ≡ cell_of cells p

-- The classes so far and the pairs still to come: whatever makes the two terms the same makes those of a class and of
-- a pair the same, and a labelling that agrees with both is closed.
pub record Joining (cells : List Cell) (ends : List ℕ) (second : ℕ) (parents schemas : List ℕ) (pairs : List Pair) : Type 0 where
  pub first : ℕ → ℕ
  pub root : ℕ → ℕ
  pub first_within : (v : ℕ) → first v < length cells
  pub len : length parents ≡ length cells
  pub falls : Falls parents
  pub forest : IsForest parents root
  pub has_schemas : HasSchemas cells root schemas
  pub within : AreWithin (length cells) pairs
  pub sound : (m : Model cells ends second) → (p : ℕ) → p < length cells → m.term p ≡ m.term (root p)
  pub sound_pairs : (m : Model cells ends second) → Agree m.term pairs
  pub complete : (f : ℕ → ℕ) → ((p : ℕ) → p < length cells → f p ≡ f (root p)) → Agree f pairs → IsClosed cells ends second first root schemas f

abbrev pub StoredJoining : Graph → List ℕ → List ℕ → List Pair → Type 0
StoredJoining g parents schemas pairs = Joining (graph_cells g) g.ends.now g.second parents schemas pairs

-- two terms that begin with these cells are never the same
pub record Clashes (c d : Cell) : Type 0 where
  pub left : variable_of c ≡ None
  pub right : variable_of d ≡ None
  pub differ : c ≡ d → ⊥

-- The schema of a class that is made of two, whose schemas are at x and y and have these cells: one of the two, and one
-- that is no variable if there is such a one. Where neither is a variable their cells are the same.
pub record Combines (c d : Cell) (x y s : ℕ) : Type 0 where
  pub left : variable_of c ≡ None → s ≡ x
  pub right : variable_of d ≡ None → (s ≡ y) ⊎ ((s ≡ x) × (c ≡ d))
  pub one : (s ≡ x) ⊎ (s ≡ y)

abbrev pub numbers_below : ℕ → List ℕ
numbers_below zero = []
numbers_below (suc n) = numbers_below n ++ n ∷ []
