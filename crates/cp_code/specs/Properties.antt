-- Properties of terms as they stand: those of the language, and the regular types that a program declares. A test binds nothing.
use Rattle.std.specs.Prelude.{ℕ, zero, suc, ◌*◌, Bool, true, false, not, ◌&&◌, ◌||◌, nat_eq, if◌then◌else◌, List, [], ◌∷◌, length, slice_index_or, Option, Some, None, pos, codes}
use Rattle.std.specs.List.{list_all, list_any}
use Rattle.std.specs.Str.{bytes_eq}
use Rattle.cp_term.specs.declared.cell.Cell.{Cell}
use Rattle.cp_term.specs.declared.cell.Cell.TheVariants.{Var, Int, Atom, Func}
use Rattle.cp_term.specs.CellEq.{cell_eq}
use Rattle.cp_term.specs.Preorder.{take_terms, drop_terms, arguments}
use Rattle.cp_goal.specs.Lists.{Spine, Proper, Partial, Improper, spine}
use Rattle.cp_goal.specs.Builtins.{is_variable, is_integer, is_atom, is_compound, is_bound_cell}
use Rattle.cp_code.specs.Bodies.{is, seen_from}

-- a property of the arguments of a goal, which are counted from 0
pub data Prop : Type 0 where
  Of : (name : List ℕ) (argument : ℕ) → Prop
  ListOf : (element : List ℕ) (argument : ℕ) → Prop
  Both : (first second : Prop) → Prop
  Either : (first second : Prop) → Prop
  Always : Prop

-- a regular type: its name and its clauses, `t(P)` or `t(P) :- B`
pub record TypeRow : Type 0 where
  pub name : List ℕ
  pub clauses : List (List Cell)

-- ---- the properties of the language

abbrev pub is_natural : List Cell → Bool
is_natural (Int (pos n) ∷ cells) = true
is_natural cells = false

abbrev pub is_proper : Spine → Bool
is_proper (Proper ts) = true
is_proper Partial = false
is_proper Improper = false

-- what a property of the language says of a term, or none where it is none of them
abbrev pub of_language : List ℕ → List Cell → Option Bool
of_language name t =
    if is name "term" then Some true
    else if is name "var" then Some (is_variable t)
    else if is name "nonvar" then Some (not (is_variable t))
    else if is name "gnd" || is name "ground" then Some (list_all is_bound_cell t)
    else if is name "int" || is name "integer" || is name "num" || is name "number" then Some (is_integer t)
    else if is name "nnegint" then Some (is_natural t)
    else if is name "atm" || is name "atom" then Some (is_atom t)
    else if is name "constant" || is name "atomic" then Some (is_atom t || is_integer t)
    else if is name "struct" || is name "compound" then Some (is_compound t)
    else if is name "callable" then Some (is_atom t || is_compound t)
    else if is name "list" then Some (is_proper (spine t))
    else None

-- ---- regular types

-- a variable of a pattern with the term that stands at its place
pub record Place : Type 0 where
  pub var : ℕ
  pub term : List Cell

abbrev pub with_place : ℕ → List Cell → Option (List Place) → Option (List Place)
with_place v t (Some places) = Some (record { var = v; term = t } ∷ places)
with_place v t None = None

-- the places of a linear pattern's variables in terms, or none where they are not of its form
abbrev pub matched : List Cell → List Cell → Option (List Place)
matched [] terms = Some []
matched (Var v ∷ pattern) terms = with_place v (take_terms 1 terms) (matched pattern (drop_terms 1 terms))
matched (c ∷ pattern) [] = None
matched (c ∷ pattern) (d ∷ terms) = if cell_eq c d then matched pattern terms else None

abbrev pub term_at : ℕ → List Place → Option (List Cell)
term_at v [] = None
term_at v (p ∷ places) = if nat_eq v p.var then Some p.term else term_at v places

-- the pattern and the body of a clause of a type
pub record TypeClause : Type 0 where
  pub pattern : List Cell
  pub body : List Cell

abbrev pub pattern_of : List (List Cell) → List Cell → TypeClause
pattern_of (pattern ∷ []) body = record { pattern = pattern; body = body }
pattern_of parts body = record { pattern = []; body = body }

abbrev pub rule_of : List (List Cell) → TypeClause
rule_of (head ∷ body ∷ []) = pattern_of (arguments head) body
rule_of parts = record { pattern = []; body = [] }

abbrev pub clause_of : List Cell → TypeClause
clause_of (Func f k ∷ cells) = if is f ":-" then rule_of (arguments (Func f k ∷ cells)) else pattern_of (arguments (Func f k ∷ cells)) (Atom (codes "true") ∷ [])
clause_of cells = record { pattern = []; body = [] }

abbrev pub row_named : List ℕ → List TypeRow → Option TypeRow
row_named name [] = None
row_named name (r ∷ rows) = if bytes_eq r.name name then Some r else row_named name rows

-- a test of a term, by a type's or property's name
abbrev pub Test : Type 0
Test = List ℕ → List Cell → Bool

abbrev pub all_pass : Test → List ℕ → Spine → Bool
all_pass test name (Proper ts) = list_all (test name) ts
all_pass test name Partial = false
all_pass test name Improper = false

abbrev pub first_name : List Cell → List ℕ
first_name (Atom a ∷ cells) = a
first_name cells = []

-- the term at the place of a variable; nothing else has a place
abbrev pub variable_term : List Place → List Cell → Option (List Cell)
variable_term places (Var v ∷ cells) = term_at v places
variable_term places cells = None

abbrev pub passes : (List Cell → Bool) → Option (List Cell) → Bool
passes test None = false
passes test (Some t) = test t

-- `u(Y)` and `list(Y, u)` of the terms at the places of the variables
abbrev pub demand_met : Test → List Place → List ℕ → List (List Cell) → Bool
demand_met test places name (y ∷ []) = passes (test name) (variable_term places y)
demand_met test places name (y ∷ u ∷ []) = is name "list" && passes (λ t. all_pass test (first_name u) (spine t)) (variable_term places y)
demand_met test places name parts = false

abbrev pub goal_met : Test → List Place → List Cell → Bool
goal_met test places (Func f k ∷ cells) = demand_met test places f (arguments (Func f k ∷ cells))
goal_met test places (Atom a ∷ cells) = is a "true"
goal_met test places cells = false

-- the goals of a body, joined by commas
abbrev pub body_met : ℕ → Test → List Place → List Cell → Bool
body_met zero test places body = false
body_met (suc n) test places (Func f (suc (suc zero)) ∷ cells) =
    if is f "," then list_all (body_met n test places) (arguments (Func f 2 ∷ cells))
    else goal_met test places ((seen_from [] (Func f 2 ∷ cells)).goal)
body_met (suc n) test places body = goal_met test places ((seen_from [] body).goal)

abbrev pub fits_places : Test → List Cell → Option (List Place) → Bool
fits_places test body (Some places) = body_met (suc (length body)) test places body
fits_places test body None = false

abbrev pub fits_clause : Test → List Cell → TypeClause → Bool
fits_clause test t c = fits_places test c.body (matched c.pattern t)

abbrev pub has_row : Test → List Cell → Option TypeRow → Bool
has_row test t (Some r) = list_any (λ c. fits_clause test t (clause_of c)) r.clauses
has_row test t None = false

abbrev pub test_by : List TypeRow → Test → Option Bool → Test
test_by types again (Some passed) name t = passed
test_by types again None name t = has_row again t (row_named name types)

-- What is said of a term without the clauses of types: of a property of the language, and that no unbound variable has a
-- regular type.
abbrev pub unless_variable : (variable : Bool) → Option Bool → Option Bool
unless_variable variable (Some passed) = Some passed
unless_variable true None = Some false
unless_variable false None = None

abbrev pub without_types : List ℕ → List Cell → Option Bool
without_types name t = unless_variable (is_variable t) (of_language name t)

-- Whether a term as it stands has a property of the language or a regular type, at most n steps down. A step goes to a part
-- of the term, or from one type to another of the same term.
abbrev pub has_within : List TypeRow → ℕ → Test
has_within types zero name t = false
has_within types (suc n) name t = test_by types (has_within types n) (without_types name t) name t

-- The depth of one more than the number of types times one more than the size of the term is enough: a greater one changes
-- nothing (the law `DepthIsEnough`).
abbrev pub has : List TypeRow → Test
has types name t = has_within types (suc (length types) * suc (length t)) name t

-- ---- formulas

abbrev pub argument_at : List (List Cell) → ℕ → List Cell
argument_at args n = slice_index_or args n []

-- the property holds of the arguments of a goal, as they stand
unfoldable pub holds : List TypeRow → Prop → List (List Cell) → Bool
holds types (Of name n) args = has types name (argument_at args n)
holds types (ListOf name n) args = all_pass (has types) name (spine (argument_at args n))
holds types (Both p q) args = holds types p args && holds types q args
holds types (Either p q) args = holds types p args || holds types q args
holds types Always args = true
