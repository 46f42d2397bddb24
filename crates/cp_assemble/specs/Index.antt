-- What a file says of its predicates, as tables that are asked by their names.
use Rattle.std.specs.Prelude.{◌≡◌, ℕ, ◌+◌, Bool, ◌&&◌, nat_eq, cond, if◌then◌else◌, List, [], ◌∷◌, length, Option, Some, None}
use Rattle.std.specs.List.{filter_map}
use Rattle.std.specs.Str.{bytes_eq}
use Rattle.cp_read.specs.declared.clause.ReadClause.{ReadClause}
use Rattle.cp_declaration.specs.declared.declaration.Declaration.{Declaration}
use Rattle.cp_declaration.specs.declared.declaration.Declaration.TheVariants as declares
use Rattle.cp_declaration.specs.declared.indicator.Indicator.{Indicator}
use Rattle.cp_module.specs.Causes.{same, is_option, is_clause_of, pred_of}
use Rattle.cp_link.specs.Modules.{said}
use Rattle.cp_link.specs.Linked.{either_marks}
use Rattle.cp_assemble.specs.declared.marks.Marking.{Marking}

-- ---- the clauses of a predicate

-- a predicate, and the places of its clauses among those of a file
pub record Row : Type 0 where
  pub pred : Indicator
  pub places : List ℕ

abbrev pub places_in : List Row → Indicator → List ℕ
places_in [] p = []
places_in (r ∷ rows) p = if same p r.pred then r.places else places_in rows p

-- the places where a table has a row, and none where it has not
abbrev pub places_or : Option (List ℕ) → List ℕ
places_or None = []
places_or (Some places) = places

-- the places of the clauses of a predicate among these, which are numbered from n
abbrev pub places_of : ℕ → List ReadClause → Indicator → List ℕ
places_of n [] p = []
places_of n (c ∷ cs) p = cond (is_clause_of p c) (n ∷ places_of (n + 1) cs p) (places_of (n + 1) cs p)

-- the table of the clauses of a file
abbrev pub IsTableOf : List ReadClause → List Row → Type 0
IsTableOf clauses rows = (p : Indicator) → places_in rows p ≡ places_of 0 clauses p

-- the place of a clause, if it is one of the predicate
abbrev pub place_by : ℕ → Option Indicator → Indicator → List ℕ
place_by at found p = cond (is_option p found) (at ∷ []) []

-- the predicate of the clause at a place, if one stands there
abbrev pub pred_by : Option ReadClause → Option Indicator
pred_by None = None
pred_by (Some c) = pred_of c

-- ---- the marks of a predicate

abbrev pub marking_by : Option Declaration → Option Marking
marking_by (Some (declares.MetaPredicate name marks)) = Some (record { name = name; marks = marks })
marking_by other = None

-- the `meta_predicate` declarations of a file
abbrev pub markings_in : List ReadClause → List Marking
markings_in clauses = filter_map (λ c. marking_by (said c)) clauses

abbrev pub is_marking_of : Indicator → Marking → Bool
is_marking_of i m = bytes_eq m.name i.name && nat_eq (length m.marks) i.arity

-- what these mark of a predicate, all of them together
abbrev pub marks_among : List Marking → Indicator → List Bool
marks_among [] i = []
marks_among (m ∷ ms) i = cond (is_marking_of i m) (either_marks m.marks (marks_among ms i)) (marks_among ms i)

-- the marks of a predicate in a table of them, and none where it has no row
abbrev pub marks_of : List (Indicator × List Bool) → Indicator → List Bool
marks_of [] p = []
marks_of (r ∷ rows) p = if same p r.0 then r.1 else marks_of rows p

abbrev pub marks_or : Option (List Bool) → List Bool
marks_or None = []
marks_or (Some marks) = marks
