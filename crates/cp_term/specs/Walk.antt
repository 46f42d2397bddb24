-- A walk through all classes along the arguments of their schemas, depth first. A class that is met below itself is a
-- cycle; where there is none, each class that is left gets the term that its schema makes of those of its arguments.
use Rattle.std.specs.Prelude.{◌≡◌, ◌⊎◌, ℕ, zero, suc, ◌<◌, Bool, true, false, ◌+◌, length, get_or, List, [], ◌∷◌}
use Rattle.std.specs.List.{flat_map}
use Rattle.cp_term.specs.declared.cell.Cell.{Cell}
use Rattle.cp_term.specs.declared.walk.Visit.{Visit}
use Rattle.cp_term.specs.declared.walk.Visit.TheVariants.{Enter, Leave}
use Rattle.cp_term.specs.declared.walk.Progress.{Progress}
use Rattle.cp_term.specs.declared.walk.Progress.TheVariants.{New, Open, Done}
use Rattle.cp_term.specs.Preorder.{is_terms}
use Rattle.cp_term.specs.declared.places.Graph.{Graph}
use Rattle.cp_term.specs.TermGraph.{cell_of, next_of, argument_places, Every, Model, graph_cells}
use Rattle.cp_term.specs.Classes.{Falls, IsForest, IsClosed, HasSchemas}

-- some item
abbrev pub Some_of : {A : Type 0} → (A → Type 0) → List A → Type 0
Some_of P [] = ⊥
Some_of P (x ∷ xs) = P x ⊎ Some_of P xs

abbrev pub visited_place : Visit → ℕ
visited_place (Enter p) = p
visited_place (Leave p) = p

-- the visits to the arguments
abbrev pub entries : List ℕ → ℕ → ℕ → List Visit
entries ends zero p = []
entries ends (suc k) p = Enter p ∷ entries ends k (next_of ends p)

abbrev pub IsDone : List Progress → ℕ → Type 0
IsDone progress p = get_or progress p New ≡ Done

-- the visit ends with the class of the place done
abbrev pub Finishes : (ℕ → ℕ) → ℕ → Visit → Type 0
Finishes root q (Enter p) = p ≡ q
Finishes root q (Leave r) = r ≡ root q

-- the class of the place is done, or will be by these visits
abbrev pub WillBeDone : (ℕ → ℕ) → List Progress → List Visit → ℕ → Type 0
WillBeDone root progress visits q = IsDone progress (root q) ⊎ Some_of (Finishes root q) visits

-- a class is left only once its arguments are done
abbrev pub IsInOrder : List Cell → List ℕ → List ℕ → (ℕ → ℕ) → List Progress → List Visit → Type 0
IsInOrder cells ends schemas root progress [] = Unit {0}
IsInOrder cells ends schemas root progress (Enter p ∷ visits) = IsInOrder cells ends schemas root progress visits
IsInOrder cells ends schemas root progress (Leave r ∷ visits) =
    Every (WillBeDone root progress visits) (argument_places cells ends (get_or schemas r 0)) × IsInOrder cells ends schemas root progress visits

-- what is visited while a class is open is smaller than it
abbrev pub Shrinks : (ℕ → ℕ) → List Visit → Type 0
Shrinks size [] = Unit {0}
Shrinks size (Enter p ∷ visits) = Shrinks size visits
Shrinks size (Leave r ∷ visits) = Every (λ x. size (visited_place x) < size r) visits × Shrinks size visits

-- the term of a class that is done is made of those of its arguments, which are done
pub record IsBuilt (cells : List Cell) (ends schemas : List ℕ) (root : ℕ → ℕ) (progress : List Progress) (term : ℕ → List Cell) (r : ℕ) : Type 0 where
  pub is_term : is_terms 1 (term r) ≡ true
  pub made : term r ≡ cell_of cells (get_or schemas r 0) ∷ flat_map (λ q. term (root q)) (argument_places cells ends (get_or schemas r 0))
  pub arguments : Every (λ q. IsDone progress (root q)) (argument_places cells ends (get_or schemas r 0))

pub record Walking (cells : List Cell) (ends : List ℕ) (second : ℕ) (parents schemas : List ℕ) (progress : List Progress) (visits : List Visit) : Type 0 where
  pub first : ℕ → ℕ
  pub root : ℕ → ℕ
  pub term : ℕ → List Cell
  pub first_within : (v : ℕ) → first v < length cells
  pub len : length parents ≡ length cells
  pub progress_len : length progress ≡ length cells
  pub falls : Falls parents
  pub forest : IsForest parents root
  pub has_schemas : HasSchemas cells root schemas
  pub sound : (m : Model cells ends second) → (p : ℕ) → p < length cells → m.term p ≡ m.term (root p)
  pub closed : IsClosed cells ends second first root schemas root
  pub within : Every (λ x. visited_place x < length cells) visits
  pub built : (r : ℕ) → r < length cells → IsDone progress r → IsBuilt cells ends schemas root progress term r
  pub all_done : (p : ℕ) → p < length cells → WillBeDone root progress visits p
  pub in_order : IsInOrder cells ends schemas root progress visits
  pub are_open : (r : ℕ) → r < length cells → get_or progress r New ≡ Open → Some_of (λ x. x ≡ Leave r) visits
  pub shrinks : (m : Model cells ends second) → Shrinks (λ p. length (m.term p)) visits

abbrev pub StoredWalking : Graph → List ℕ → List ℕ → List Progress → List Visit → Type 0
StoredWalking g parents schemas progress visits = Walking (graph_cells g) g.ends.now g.second parents schemas progress visits

-- the visits to k places from p on
abbrev pub all_entries : ℕ → ℕ → List Visit
all_entries p zero = []
all_entries p (suc k) = Enter p ∷ all_entries (p + 1) k

abbrev pub is_new : Progress → Bool
is_new New = true
is_new Open = false
is_new Done = false
