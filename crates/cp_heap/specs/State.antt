-- What contracts see of a heap.
use Rattle.std.specs.List.{list_all}
use Rattle.std.specs.Prelude.{◌≡◌, ℕ, Bool, ◌<◌, ◌≤◌, true, false, cond, nat_eq, Option, Some, None, List, [], ◌∷◌, ◌++◌, length, take, get_or, map, All}
use Rattle.cp_term.specs.declared.cell.Cell.{Cell}
use Rattle.cp_term.specs.declared.cell.Cell.TheVariants.{Var, Int, Atom, Func}
use Rattle.cp_term.specs.Preorder.{is_terms}
use Rattle.cp_term.specs.Numbering.{occurs, next_variable}
use Rattle.cp_term.specs.Substitution.{Substitution, apply}
use Rattle.cp_heap.specs.declared.bound.Bound.{Bound}
use Rattle.cp_heap.specs.declared.mark.Mark.{Mark}
use Rattle.cp_heap.specs.declared.reference.Ref.{Ref}

-- The terms that were made, in order, each without the bindings; the bindings, in the order in which they were made;
-- the number of variables, which are numbered from 0; and the table of names, which only grows.
pub record State : Type 0 where
  pub terms : List (List Cell)
  pub trail : List Bound
  pub variables : ℕ
  pub names : List (List ℕ)

-- the term at a place
abbrev pub term : State → ℕ → List Cell
term h at = get_or h.terms at []

-- the substitution that bindings to such terms make: each term with the bindings made before it
abbrev pub bindings_from : List (List Cell) → Substitution → List Bound → Substitution
bindings_from terms s [] = s
bindings_from terms s (b ∷ trail) =
    bindings_from terms (s ++ (record { var = b.variable; term = apply s (get_or terms b.at []) }) ∷ []) trail

abbrev pub bindings : List (List Cell) → List Bound → Substitution
bindings terms trail = bindings_from terms [] trail

abbrev pub substitution : State → Substitution
substitution h = bindings h.terms h.trail

-- the place of the term to which a variable is bound
abbrev pub found : ℕ → List Bound → Option ℕ
found v [] = None
found v (b ∷ trail) = cond (nat_eq b.variable v) (Some b.at) (found v trail)

-- A binding may be made behind others: its variable is not bound yet, and does not occur in its term. Where that term
-- is a variable, it is an older one.
pub record MayBind (terms : List (List Cell)) (variables : ℕ) (earlier : List Bound) (b : Bound) : Type 0 where
  pub variable : b.variable < variables
  pub place : b.at < length terms
  pub unbound : found b.variable earlier ≡ None
  pub apart : occurs b.variable (apply (bindings terms earlier) (get_or terms b.at [])) ≡ false
  pub older : (m : ℕ) → get_or terms b.at [] ≡ Var m ∷ [] → m < b.variable

abbrev pub IsTrail : List (List Cell) → ℕ → List Bound → List Bound → Type 0
IsTrail terms variables earlier [] = Unit {0}
IsTrail terms variables earlier (b ∷ trail) = MayBind terms variables earlier b × IsTrail terms variables (earlier ++ b ∷ []) trail

-- the term at this place is no bound variable
abbrev pub IsEnd : State → ℕ → Type 0
IsEnd h at = (v : ℕ) → term h at ≡ Var v ∷ [] → found v h.trail ≡ None

-- all bindings are of these first variables and to terms at these first places
abbrev pub AreBoundWithin : ℕ → ℕ → List Bound → Type 0
AreBoundWithin variables places [] = Unit {0}
AreBoundWithin variables places (b ∷ trail) = (b.variable < variables) × (b.at < places) × AreBoundWithin variables places trail

-- the terms have these first variables alone
abbrev pub HaveVariablesBelow : ℕ → List (List Cell) → Type 0
HaveVariablesBelow n [] = Unit {0}
HaveVariablesBelow n (t ∷ ts) = (next_variable t ≤ n) × HaveVariablesBelow n ts

-- each is one term
abbrev pub AreTerms : List (List Cell) → Type 0
AreTerms [] = Unit {0}
AreTerms (t ∷ ts) = (is_terms 1 t ≡ true) × AreTerms ts

-- What holds of every heap: each place has one term, over the variables of the heap, and the bindings could be made one
-- after another.
pub record IsWellFormed (h : State) : Type 0 where
  pub terms : AreTerms h.terms
  pub written : HaveVariablesBelow h.variables h.terms
  pub trail : IsTrail h.terms h.variables [] h.trail

-- The heap can be taken back to this mark: it has grown no less since, and what stood at the mark speaks of nothing that
-- came later.
pub record IsLive (mark : Mark) (h : State) : Type 0 where
  pub terms : mark.terms ≤ length h.terms
  pub trail : mark.bindings ≤ length h.trail
  pub variables : mark.variables ≤ h.variables
  pub bound_within : AreBoundWithin mark.variables mark.terms (take mark.bindings h.trail)
  pub written_within : HaveVariablesBelow mark.variables (take mark.terms h.terms)

-- the heap as it was at a mark
abbrev pub state_at : Mark → State → State
state_at mark h = record { terms = take mark.terms h.terms; trail = take mark.bindings h.trail; variables = mark.variables; names = h.names }

-- one heap has grown to the other: it has kept its terms, its bindings, its variables and its names
pub record Extends (old new : State) : Type 0 where
  pub terms : take (length old.terms) new.terms ≡ old.terms
  pub trail : take (length old.trail) new.trail ≡ old.trail
  pub variables : old.variables ≤ new.variables
  pub names : take (length old.names) new.names ≡ old.names

-- the instance of the term at a place
abbrev pub instance_at : State → ℕ → List Cell
instance_at h at = apply (substitution h) (term h at)

-- no variable is left
abbrev pub is_value : Cell → Bool
is_value (Var v) = false
is_value (Int i) = true
is_value (Atom a) = true
is_value (Func f k) = true

abbrev pub is_ground : List Cell → Bool
is_ground cells = list_all is_value cells

-- each is a place of the heap
abbrev pub AreRefs : State → List Ref → Type 0
AreRefs h refs = All (λ r. r.at < length h.terms) refs

-- the terms at these places
abbrev pub terms_at : State → List Ref → List (List Cell)
terms_at h refs = map (λ r. term h r.at) refs

-- the number of a variable
abbrev pub number_of : List Cell → ℕ
number_of [] = 0
number_of (Var v ∷ cells) = v
number_of (Int i ∷ cells) = 0
number_of (Atom a ∷ cells) = 0
number_of (Func f k ∷ cells) = 0
