-- What is refused in a file by itself: each clause is held against the clauses above it, and of all causes the one of the
-- least line counts, and of those in one line the one that stands first in the table of causes.
use Rattle.std.specs.Prelude.{◌≡◌, ℕ, zero, suc, ◌+◌, Bool, true, false, not, ◌&&◌, ◌||◌, nat_eq, nat_lt, nat_le, cond, if◌then◌else◌, List, [], ◌∷◌, ◌++◌, map, filter, length, Option, Some, None, is_some, is_ok, find, codes, unwrap_or, ℤ}
use Rattle.std.specs.List.{list_any, list_all, flat_map, filter_map}
use Rattle.std.specs.Str.{bytes_eq}
use Rattle.cp_term.specs.declared.cell.Cell.{Cell}
use Rattle.cp_term.specs.declared.cell.Cell.TheVariants.{Var, Int, Atom, Func}
use Rattle.cp_ops.specs.Operators.{Ops}
use Rattle.cp_ops.specs.Standard.{standard}
use Rattle.cp_read.specs.declared.clause.ReadClause.{ReadClause}
use Rattle.cp_code.specs.Bodies.{is, body_of}
use Rattle.cp_code.specs.Clauses.{head_of, body_term}
use Rattle.cp_declaration.specs.declared.declaration.Declaration.{Declaration}
use Rattle.cp_declaration.specs.declared.declaration.Declaration.TheVariants as declares
use Rattle.cp_declaration.specs.declared.indicator.Indicator.{Indicator}
use Rattle.cp_declaration.specs.Declarations.{declaration, is_declaration}
use Rattle.cp_module.specs.declared.why.Why.{Why}
use Rattle.cp_module.specs.declared.why.Why.TheVariants as why
use Rattle.cp_module.specs.Texts.{Cause, Text, declared}
use Rattle.cp_module.specs.Words.{is_language, rank}

-- ---- what the clauses of a file say

abbrev pub same : Indicator → Indicator → Bool
same p q = bytes_eq p.name q.name && nat_eq p.arity q.arity

abbrev pub is_in : List Indicator → Indicator → Bool
is_in ps p = list_any (same p) ps

-- the predicate of a head, which is an atom or a compound
abbrev pub headed : List Cell → Option Indicator
headed (Atom a ∷ cells) = Some (record { name = a; arity = 0 })
headed (Func f k ∷ cells) = Some (record { name = f; arity = k })
headed cells = None

-- the predicate that a clause is of; a declaration is of none
abbrev pub pred_of : ReadClause → Option Indicator
pred_of c = cond (is_declaration c.term) None (headed (head_of c.term))

abbrev pub shares_by : Option Declaration → List Indicator
shares_by (Some (declares.Shared suspends preds)) = preds
shares_by other = []

-- the predicates that a clause declares to be shared
abbrev pub shares : ReadClause → List Indicator
shares c = cond (is_declaration c.term) (shares_by (declaration c.term)) []

abbrev pub is_shared : List ReadClause → Indicator → Bool
is_shared clauses p = list_any (λ (c : ReadClause). is_in (shares c) p) clauses

abbrev pub is_option : Indicator → Option Indicator → Bool
is_option p None = false
is_option p (Some q) = same p q

abbrev pub is_clause_of : Indicator → ReadClause → Bool
is_clause_of p c = is_option p (pred_of c)

abbrev pub clauses_of : List ReadClause → Indicator → List ReadClause
clauses_of clauses p = filter (is_clause_of p) clauses

-- it has a clause, or is declared to be shared
abbrev pub is_defined : List ReadClause → Indicator → Bool
is_defined clauses p = list_any (is_clause_of p) clauses || is_shared clauses p

-- ---- the header

-- `:- module(M, E)` or `:- module(M, E, P)`, whatever its arguments are
abbrev pub is_header : List Cell → Bool
is_header (c ∷ Func f k ∷ cells) = is_declaration (c ∷ Func f k ∷ cells) && is f "module" && (nat_eq k 2 || nat_eq k 3)
is_header cells = false

abbrev pub named_by : List ℕ → Option Declaration → List ℕ
named_by base (Some (declares.Module (Some name) exports)) = name
named_by base other = base

-- the module's name: a variable in the header stands for the base name of the file
abbrev pub module_name : (base : List ℕ) → List ReadClause → List ℕ
module_name base [] = base
module_name base (c ∷ clauses) = named_by base (declaration c.term)

abbrev pub exported_by : Option Declaration → Option (List Indicator)
exported_by (Some (declares.Module name exports)) = exports
exported_by other = None

-- what the header exports; none stands for every predicate that the module defines
abbrev pub header_exports : List ReadClause → Option (List Indicator)
header_exports [] = None
header_exports (c ∷ clauses) = exported_by (declaration c.term)

-- ---- the causes of one clause

abbrev pub unless : Bool → Why → Option Why → Option Why
unless wrong w other = cond wrong (Some w) other

-- a base name that is too long is no name of a module
abbrev pub header_cause : (base : List ℕ) → Option Declaration → Option Why
header_cause base (Some (declares.Module (Some name) exports)) = None
header_cause base (Some (declares.Module None exports)) = unless (nat_lt 1024 (length base)) why.BadDeclaration None
header_cause base other = Some why.BadDeclaration

abbrev pub first_cause : (base : List ℕ) → List Cell → Option Why
first_cause base cells = unless (not (is_header cells)) why.NoModuleHeader (header_cause base (declaration cells))

-- a predicate twice among these
abbrev pub repeats : List Indicator → Bool
repeats [] = false
repeats (p ∷ ps) = is_in ps p || repeats ps

abbrev pub is_goal_of_the_language : Indicator → Bool
is_goal_of_the_language p = is_language p.name p.arity

abbrev pub declaration_cause : List ReadClause → Option Declaration → Option Why
declaration_cause above None = Some why.BadDeclaration
declaration_cause above (Some (declares.Module name exports)) = Some why.BadDeclaration
declaration_cause above (Some (declares.Operators priority kind names)) =
    unless (not (is_some (declared standard priority kind names))) why.BadDeclaration None
declaration_cause above (Some (declares.Shared suspends preds)) =
    unless (list_any is_goal_of_the_language preds) why.ClauseOfBuiltin
    (unless (repeats preds || list_any (is_defined above) preds) why.SharedTwice None)
declaration_cause above (Some other) = None

abbrev pub is_body : List ℕ → Option (List Cell) → Bool
is_body m None = true
is_body m (Some cells) = is_some (body_of m cells)

abbrev pub is_true : List Cell → Bool
is_true (Atom a ∷ []) = is a "true"
is_true cells = false

-- a fact, or a rule with the body `true`
abbrev pub is_fact : Option (List Cell) → Bool
is_fact None = true
is_fact (Some cells) = is_true cells

-- a predicate has at most 4,096 clauses
abbrev pub head_cause : List ReadClause → List Cell → Option Indicator → Option Why
head_cause above cells None = Some why.BadBody
head_cause above cells (Some p) =
    unless (is_goal_of_the_language p) why.ClauseOfBuiltin
    (unless (is_shared above p && not (is_fact (body_term cells))) why.RuleOfShared
    (unless (nat_le 4096 (length (clauses_of above p))) why.TooManyClauses None))

abbrev pub rule_cause : (m : List ℕ) → List ReadClause → List Cell → Option Why
rule_cause m above cells = unless (not (is_body m (body_term cells))) why.BadBody (head_cause above cells (headed (head_of cells)))

abbrev pub later_cause : (m : List ℕ) → List ReadClause → List Cell → Option Why
later_cause m above cells = cond (is_declaration cells) (declaration_cause above (declaration cells)) (rule_cause m above cells)

-- the first cause in a clause, by the table, where those above it are these
abbrev pub clause_cause : (base : List ℕ) → List ReadClause → ReadClause → Option Why
clause_cause base [] c = first_cause base c.term
clause_cause base (a ∷ above) c = later_cause (module_name base (a ∷ above)) (a ∷ above) c.term

-- ---- the causes of a file

abbrev pub cause_on : ℕ → Option Why → List Cause
cause_on line None = []
cause_on line (Some w) = record { line = line; why = w } ∷ []

abbrev pub clause_causes : (base : List ℕ) → (above clauses : List ReadClause) → List Cause
clause_causes base above [] = []
clause_causes base above (c ∷ clauses) = cause_on c.line (clause_cause base above c) ++ clause_causes base (above ++ c ∷ []) clauses

abbrev pub undefined : List ReadClause → Option (List Indicator) → Bool
undefined clauses None = false
undefined clauses (Some exports) = list_any (λ p. not (is_defined clauses p)) exports

-- a file without a clause has no header; an export that the file does not define is refused in the line of the header
abbrev pub whole_causes : List ReadClause → List Cause
whole_causes [] = cause_on 1 (Some why.NoModuleHeader)
whole_causes (c ∷ clauses) = cause_on c.line (unless (undefined (c ∷ clauses) (header_exports (c ∷ clauses))) why.NotExported None)

-- what is said of the whole file is said where all of it can be read
abbrev pub end_causes : List ReadClause → Option Cause → List Cause
end_causes clauses (Some fault) = fault ∷ []
end_causes clauses None = whole_causes clauses

abbrev pub causes : (base : List ℕ) → Text → List Cause
causes base text = clause_causes base [] text.clauses ++ end_causes text.clauses text.fault

-- ---- which cause counts

abbrev pub comes_before : Cause → Cause → Bool
comes_before c d = nat_lt c.line d.line || (nat_eq c.line d.line && nat_lt (rank c.why) (rank d.why))

abbrev pub sooner : Cause → Option Cause → Cause
sooner c None = c
sooner c (Some d) = cond (comes_before d c) d c

-- of the least line, and in that line the first of the table
abbrev pub least : List Cause → Option Cause
least [] = None
least (c ∷ causes) = Some (sooner c (least causes))

-- what a file is refused for by itself, if it is refused
unfoldable pub refused : (base : List ℕ) → Text → Option Cause
refused base text = least (causes base text)
