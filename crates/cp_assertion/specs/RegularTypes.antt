-- Clauses of regular types (Ciao manual, "Declaring regular types"): `t(P)` or `t(P) :- B`. P is a linear term that is no
-- variable, and B joins by `,` properties `u(Y)` or `list(Y, u)`, at most one for each variable Y of P; or P is a variable,
-- and B is one property of it, which is one of the language or a regular type that is there already. As the goals of clauses
-- have the modules that they are resolved to in front of them, `M:u(Y)` is read as `u(Y)`.
use Rattle.std.specs.Prelude.{◌≡◌, ℕ, zero, suc, Bool, true, false, not, ◌&&◌, ◌||◌, nat_eq, nat_lt, cond, if◌then◌else◌, List, [], ◌∷◌, ◌++◌, map, slice_index_or, Option, Some, None}
use Rattle.std.specs.List.{list_all, list_any, position_from}
use Rattle.std.specs.Str.{bytes_eq}
use Rattle.cp_term.specs.declared.cell.Cell.{Cell}
use Rattle.cp_term.specs.declared.cell.Cell.TheVariants.{Var, Int, Atom, Func}
use Rattle.cp_goal.specs.Builtins.{is_variable}
use Rattle.cp_goal.specs.Folds.{of_terms}
use Rattle.cp_code.specs.declared.clause.Clause.{Clause}
use Rattle.cp_code.specs.declared.type_row.TypeRow.{TypeRow}
use Rattle.cp_code.specs.Bodies.{is}
use Rattle.cp_code.specs.Clauses.{head_of, body_term}
use Rattle.cp_assertion.specs.declared.demand.Demand.{Demand}
use Rattle.cp_assertion.specs.declared.body_part.BodyPart.{BodyPart}
use Rattle.cp_assertion.specs.declared.body_part.BodyPart.TheVariants.{Variable, Word, Demands, Other}
use Rattle.cp_assertion.specs.declared.type_error.TypeError.{TypeError}
use Rattle.cp_assertion.specs.declared.type_error.TypeError.TheVariants as error
use Rattle.cp_assertion.specs.declared.type_uses.TypeUses.{TypeUses}
use Rattle.cp_assertion.specs.Names.{is_of_language, is_property, is_type_of}

-- ---- the body

-- the demands of two goals; their order does not matter, and those of the second come first
abbrev pub both : BodyPart → BodyPart → BodyPart
both (Demands ds) (Demands es) = Demands (es ++ ds)
both left right = Other

abbrev pub only_one : List Demand → BodyPart
only_one (d ∷ []) = Demands (d ∷ [])
only_one ds = Other

abbrev pub one_goal : BodyPart → BodyPart
one_goal (Demands ds) = only_one ds
one_goal part = Other

-- `M:G`, where G is one goal
abbrev pub in_module : BodyPart → BodyPart → BodyPart
in_module (Word m) goal = one_goal goal
in_module left goal = Other

abbrev pub demand_part : List ℕ → BodyPart → BodyPart
demand_part u (Variable v) = Demands ((record { var = v; name = u; of_list = false }) ∷ [])
demand_part u part = Other

abbrev pub list_part : BodyPart → BodyPart → BodyPart
list_part (Variable v) (Word u) = Demands ((record { var = v; name = u; of_list = true }) ∷ [])
list_part left right = Other

abbrev pub binary_part : List ℕ → BodyPart → BodyPart → BodyPart
binary_part f a b =
    if is f "," then both a b
    else if is f ":" then in_module a b
    else if is f "list" then list_part a b
    else Other

abbrev pub compound_part : List ℕ → (arity : ℕ) → List BodyPart → BodyPart
compound_part f (suc zero) (a ∷ []) = demand_part f a
compound_part f (suc (suc zero)) (a ∷ b ∷ []) = binary_part f a b
compound_part f k parts = Other

abbrev pub part_of : Cell → List BodyPart → BodyPart
part_of (Var v) parts = Variable v
part_of (Int i) parts = Other
part_of (Atom a) parts = Word a
part_of (Func f k) parts = compound_part f k parts

abbrev pub demands_in : BodyPart → Option (List Demand)
demands_in (Demands ds) = Some ds
demands_in part = None

-- the properties that a body joins, or none where it holds another goal
unfoldable pub demands_of : List Cell → Option (List Demand)
demands_of body = demands_in (slice_index_or (of_terms part_of body) 0 Other)

-- ---- the pattern

-- the number of the variables 0, 1, .. of a pattern in which each is a new one, so that none occurs twice; of which n were seen
abbrev pub linear_from : ℕ → List Cell → Option ℕ
linear_from n [] = Some n
linear_from n (Var v ∷ cells) = cond (nat_eq v n) (linear_from (suc n) cells) None
linear_from n (Int i ∷ cells) = linear_from n cells
linear_from n (Atom a ∷ cells) = linear_from n cells
linear_from n (Func f k ∷ cells) = linear_from n cells

-- the pattern P of a head `t(P)`
abbrev pub pattern_in : List ℕ → List Cell → Option (List Cell)
pattern_in t (Func f (suc zero) ∷ pattern) = cond (bytes_eq f t) (Some pattern) None
pattern_in t cells = None

-- ---- the names that a clause rests on

abbrev pub is_demanded : ℕ → List Demand → Bool
is_demanded v ds = list_any (λ (d : Demand). nat_eq d.var v) ds

-- no variable has two demands
abbrev pub are_distinct : List Demand → Bool
are_distinct [] = true
are_distinct (d ∷ ds) = not (is_demanded d.var ds) && are_distinct ds

abbrev pub are_below : ℕ → List Demand → Bool
are_below n ds = list_all (λ (d : Demand). nat_lt d.var n) ds

-- each demand is of a variable of the pattern, which are 0 to n - 1, and no two are of the same
abbrev pub are_of_variables : ℕ → List Demand → Bool
are_of_variables n ds = are_below n ds && are_distinct ds

abbrev pub names_in : List Demand → List (List ℕ)
names_in ds = map (λ (d : Demand). d.name) ds

abbrev pub uses_names : List Demand → TypeUses
uses_names ds = record { names = names_in ds; link = None }

abbrev pub uses_link : Demand → TypeUses
uses_link d = cond d.of_list (record { names = d.name ∷ []; link = None }) (record { names = []; link = Some d.name })

abbrev pub uses_of_demands : ℕ → Option (List Demand) → Option TypeUses
uses_of_demands n (Some ds) = cond (are_of_variables n ds) (Some (uses_names ds)) None
uses_of_demands n None = None

-- of a clause whose pattern is linear and no variable
abbrev pub uses_of_linear : Option ℕ → Option (List Cell) → Option TypeUses
uses_of_linear None body = None
uses_of_linear (Some n) None = Some (uses_names [])
uses_of_linear (Some n) (Some body) = uses_of_demands n (demands_of body)

-- of a clause whose pattern is the variable 0
abbrev pub uses_of_alias : Option (List Demand) → Option TypeUses
uses_of_alias (Some (d ∷ [])) = cond (nat_eq d.var 0) (Some (uses_link d)) None
uses_of_alias ds = None

abbrev pub uses_of_variable : Option (List Cell) → Option TypeUses
uses_of_variable None = None
uses_of_variable (Some body) = uses_of_alias (demands_of body)

abbrev pub uses_of_pattern : Option (List Cell) → Option (List Cell) → Option TypeUses
uses_of_pattern None body = None
uses_of_pattern (Some pattern) body = cond (is_variable pattern) (uses_of_variable body) (uses_of_linear (linear_from 0 pattern) body)

-- the names that a clause of the type t rests on, or none where it is no such clause
unfoldable pub uses : (t : List ℕ) → List Cell → Option TypeUses
uses t whole = uses_of_pattern (pattern_in t (head_of whole)) (body_term whole)

-- ---- the rules that they are to meet

abbrev pub is_link : (is_earlier : List ℕ → Bool) → Option (List ℕ) → Bool
is_link is_earlier None = true
is_link is_earlier (Some u) = is_of_language u || is_earlier u

abbrev pub are_properties : (is_type : List ℕ → Bool) → List (List ℕ) → Bool
are_properties is_type names = list_all (is_property is_type) names

abbrev pub are_met : (is_type is_earlier : List ℕ → Bool) → Option TypeUses → Bool
are_met is_type is_earlier None = false
are_met is_type is_earlier (Some u) = are_properties is_type u.names && is_link is_earlier u.link

-- the rules admit the clause as one of the type t
abbrev pub is_regular : (is_type is_earlier : List ℕ → Bool) → (t : List ℕ) → List Cell → Bool
is_regular is_type is_earlier t whole = are_met is_type is_earlier (uses t whole)

-- ---- the types of a program

abbrev pub has_clauses : List Clause → Bool
has_clauses [] = false
has_clauses (c ∷ clauses) = true

-- a regular type that has its clauses already
abbrev pub is_earlier_of : List TypeRow → List ℕ → Bool
is_earlier_of types name = list_any (λ (r : TypeRow). bytes_eq r.name name && has_clauses r.clauses) types

abbrev pub is_irregular : List TypeRow → List ℕ → Clause → Bool
is_irregular types name c = not (is_regular (is_type_of types) (is_earlier_of types) name c.whole)

-- the number, from 0, of the first clause that the rules do not admit
abbrev pub first_irregular : List TypeRow → List ℕ → List Clause → Option ℕ
first_irregular types name clauses = position_from (is_irregular types name) 0 clauses

-- the types with these clauses in the first row of the name
abbrev pub given : List TypeRow → List ℕ → List Clause → List TypeRow
given [] name clauses = []
given (r ∷ rows) name clauses = cond (bytes_eq r.name name) (record { name = r.name; clauses = clauses } ∷ rows) (r ∷ given rows name clauses)

-- the fault is the number of the first clause that is not admitted, or want of memory
abbrev pub IsFault : Option ℕ → TypeError → Type 0
IsFault first (error.NotRegular n) = first ≡ Some n
IsFault first error.NoMemory = Unit {0}
