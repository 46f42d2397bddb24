-- How a heap is laid out in words.
use Rattle.std.specs.Prelude.{◌≡◌, ℕ, suc, ◌+◌, ◌<◌, ◌≤◌, ◌^◌, Option, None, List, [], ◌∷◌, ◌++◌, length, take, drop, get_or}
use Rattle.std.specs.List.{flat_map}
use Rattle.cp_term.specs.declared.cell.Cell.{Cell}
use Rattle.cp_term.specs.declared.cell.Cell.TheVariants.{Var, Int, Atom as AtomCell, Func}
use Rattle.cp_heap.specs.declared.word.Word.{Word}
use Rattle.cp_heap.specs.declared.word.Word.TheVariants.{Variable, Integer, Atom, Compound}
use Rattle.cp_heap.specs.declared.bound.Bound.{Bound}
use Rattle.cp_heap.specs.declared.heap.Heap.TheInside.{Inside}
use Rattle.cp_heap.specs.State.{State, found, IsTrail}

-- the term of a word, over those at the places before it
abbrev pub word_term : List (List ℕ) → List (List Cell) → Word → List Cell
word_term names terms (Variable v) = Var v ∷ []
word_term names terms (Integer i) = Int i ∷ []
word_term names terms (Atom a) = AtomCell (get_or names a []) ∷ []
word_term names terms (Compound k f first) = Func (get_or names f []) k ∷ flat_map (λ t. t) (take k (drop first terms))

-- the terms of all words, behind those before
abbrev pub terms_from : List (List ℕ) → List (List Cell) → List Word → List (List Cell)
terms_from names below [] = below
terms_from names below (w ∷ words) = terms_from names (below ++ word_term names below w ∷ []) words

abbrev pub state_of : Inside → State
state_of h = record { terms = terms_from h.names.keys [] h.words.items; trail = h.trail.items; variables = length h.values.items; names = h.names.keys }

-- A word may stand at a place: its variable and its name are there, and its arguments stand below it.
abbrev pub IsPlaced : ℕ → ℕ → ℕ → Word → Type 0
IsPlaced names variables at (Variable v) = v < variables
IsPlaced names variables at (Integer i) = Unit {0}
IsPlaced names variables at (Atom a) = a < names
IsPlaced names variables at (Compound k f first) = (0 < k) × (k < 256) × (f < names) × (first + k ≤ at)

abbrev pub ArePlaced : ℕ → ℕ → ℕ → List Word → Type 0
ArePlaced names variables at [] = Unit {0}
ArePlaced names variables at (w ∷ words) = IsPlaced names variables at w × ArePlaced names variables (suc at) words

-- The words may stand at their places, the bindings may have been made one after another, and the value of each variable
-- is that of its binding.
pub record AreLaidOut (ns : List (List ℕ)) (ws : List Word) (bs : List Bound) (vs : List (Option ℕ)) : Type 0 where
  pub words : ArePlaced (length ns) (length vs) 0 ws
  pub trail : IsTrail (terms_from ns [] ws) (length vs) [] bs
  pub values : (v : ℕ) → v < length vs → get_or vs v None ≡ found v bs
  pub places_fit : length ws < 2 ^ 32
  pub bindings_fit : length bs < 2 ^ 32
  pub variables_fit : length vs < 2 ^ 32
  pub names_fit : length ns < 2 ^ 32

abbrev pub IsLaidOut : Inside → Type 0
IsLaidOut h = AreLaidOut h.names.keys h.words.items h.trail.items h.values.items
