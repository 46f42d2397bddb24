-- Terms that are walked with a stack of places, whose top is last.
use Rattle.std.specs.Prelude.{ℕ, zero, suc, Bool, true, false, nat_eq, ◌+◌, ◌<◌, List, [], ◌∷◌, ◌++◌, length, get_or}
use Rattle.cp_term.specs.declared.cell.Cell.{Cell}
use Rattle.cp_term.specs.declared.cell.Cell.TheVariants.{Var, Int, Atom as AtomCell, Func}
use Rattle.cp_heap.specs.declared.word.Word.{Word}
use Rattle.cp_heap.specs.declared.word.Word.TheVariants.{Variable, Integer, Atom, Compound}
use Rattle.cp_heap.specs.State.{State, instance_at}

-- the instances of the terms that are still to come, from the top
abbrev pub waiting : State → List ℕ → List Cell
waiting h [] = []
waiting h (at ∷ ats) = waiting h ats ++ instance_at h at

-- each is a place of the heap
abbrev pub AreLive : State → List ℕ → Type 0
AreLive h [] = Unit {0}
AreLive h (at ∷ ats) = (at < length h.terms) × AreLive h ats

-- so many places side by side, the first on top
abbrev pub places_from : ℕ → ℕ → List ℕ
places_from first zero = []
places_from first (suc k) = (first + k) ∷ places_from first k

-- a word is this variable
abbrev pub is_word_of : ℕ → Word → Bool
is_word_of v (Variable u) = nat_eq u v
is_word_of v (Integer i) = false
is_word_of v (Atom a) = false
is_word_of v (Compound k f first) = false

-- a word is a variable
abbrev pub is_free_word : Word → Bool
is_free_word (Variable u) = true
is_free_word (Integer i) = false
is_free_word (Atom a) = false
is_free_word (Compound k f first) = false

-- the first cell of what stands at a place, and the places of its arguments
abbrev pub first_cell : List (List ℕ) → Word → Cell
first_cell names (Variable v) = Var v
first_cell names (Integer i) = Int i
first_cell names (Atom a) = AtomCell (get_or names a [])
first_cell names (Compound k f first) = Func (get_or names f []) k

abbrev pub argument_places : Word → List ℕ
argument_places (Variable v) = []
argument_places (Integer i) = []
argument_places (Atom a) = []
argument_places (Compound k f first) = places_from first k
