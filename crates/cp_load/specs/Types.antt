-- The regular types of a program. Each is declared once, and has the clauses of the predicate of that name with one argument
-- in the file that declares it. They are added in the order of their first clauses.
use Rattle.std.specs.Prelude.{ℕ, Bool, false, ◌||◌, ◌&&◌, nat_eq, List, [], ◌∷◌, ◌++◌, map, filter, Option, Some, None, slice_get}
use Rattle.std.specs.List.{list_any, flat_map}
use Rattle.std.specs.Str.{bytes_eq}
use Rattle.cp_read.specs.declared.clause.ReadClause.{ReadClause}
use Rattle.cp_code.specs.declared.clause.Clause.{Clause}
use Rattle.cp_code.specs.declared.type_row.TypeRow.{TypeRow}
use Rattle.cp_declaration.specs.declared.declaration.Declaration.{Declaration}
use Rattle.cp_declaration.specs.declared.declaration.Declaration.TheVariants as declares
use Rattle.cp_declaration.specs.declared.indicator.Indicator.{Indicator}
use Rattle.cp_module.specs.declared.why.Why.TheVariants as why
use Rattle.cp_module.specs.declared.cause.Cause.{Cause}
use Rattle.cp_module.specs.Parts.{Part}
use Rattle.cp_module.specs.Causes.{pred_of, clauses_of, unless, cause_on, least}
use Rattle.cp_link.specs.Modules.{name_of, said, one, distinct}
use Rattle.cp_link.specs.Linked.{clause_in}
use Rattle.cp_link.specs.Refusals.{Fault, or_later}
use Rattle.cp_assertion.specs.RegularTypes.{first_irregular, given}

abbrev pub declares_type : List ℕ → Option Declaration → Bool
declares_type t (Some (declares.RegType name)) = bytes_eq name t
declares_type t other = false

abbrev pub is_declared : List ReadClause → List ℕ → Bool
is_declared clauses t = list_any (λ c. declares_type t (said c)) clauses

-- a type is declared once in all files
abbrev pub again : List Part → List ReadClause → Option Declaration → Bool
again before above (Some (declares.RegType name)) = list_any (λ (p : Part). is_declared p.clauses name) before || is_declared above name
again before above other = false

abbrev pub declared_again : List Part → (above clauses : List ReadClause) → List Cause
declared_again before above [] = []
declared_again before above (c ∷ clauses) =
    cause_on c.line (unless (again before above (said c)) why.NotRegular None) ++ declared_again before (above ++ c ∷ []) clauses

-- the types that a file declares and has clauses of, in the order of their first clauses
abbrev pub is_type_in : List ReadClause → Indicator → Bool
is_type_in clauses i = nat_eq i.arity 1 && is_declared clauses i.name

abbrev pub type_order : List ReadClause → List Indicator
type_order clauses = filter (is_type_in clauses) (distinct (flat_map (λ c. one (pred_of c)) clauses))

abbrev pub type_clauses : Part → Indicator → List Clause
type_clauses p i = map (clause_in (name_of p)) (clauses_of p.clauses i)

abbrev pub line_of : Option Clause → ℕ
line_of None = 1
line_of (Some c) = c.line

abbrev pub irregular : List Clause → Option ℕ → List Cause
irregular clauses None = []
irregular clauses (Some n) = cause_on (line_of (slice_get clauses n)) (Some why.NotRegular)

abbrev pub with_types : List TypeRow → Part → List Indicator → List TypeRow
with_types types p [] = types
with_types types p (i ∷ order) = with_types (given types i.name (type_clauses p i)) p order

abbrev pub irregular_types : List TypeRow → Part → List Indicator → List Cause
irregular_types types p [] = []
irregular_types types p (i ∷ order) =
    irregular (type_clauses p i) (first_irregular types i.name (type_clauses p i)) ++ irregular_types (given types i.name (type_clauses p i)) p order

abbrev pub causes_in : List TypeRow → (before : List Part) → Part → List Cause
causes_in types before p = declared_again before [] p.clauses ++ irregular_types types p (type_order p.clauses)

abbrev pub fault_from : List TypeRow → (before rest : List Part) → Option Fault
fault_from types before [] = None
fault_from types before (p ∷ rest) =
    or_later p.file (least (causes_in types before p)) (fault_from (with_types types p (type_order p.clauses)) (before ++ p ∷ []) rest)

-- what is refused in the regular types of these files, whose names are these
unfoldable pub type_fault : List TypeRow → List Part → Option Fault
type_fault types parts = fault_from types [] parts

-- the regular types with their clauses
unfoldable pub typed : List TypeRow → List Part → List TypeRow
typed types [] = types
typed types (p ∷ parts) = typed (with_types types p (type_order p.clauses)) parts
