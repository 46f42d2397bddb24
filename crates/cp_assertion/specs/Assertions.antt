-- Assertions (Ciao manual, "The Ciao assertion language"): `:- Status Kind Body` or `:- Kind Body`, where Body is one of `H`,
-- `H : A`, `H => B` and `H : A => B`. `# Text` after it is ignored, and `+ C` after H, A or B is kept unread. `#`, `=>`, `:`
-- and `+` bind in this order, from the weakest on, so that a body is `((H + C : A + C) => B + C) # Text`.
use Rattle.std.specs.Prelude.{◌≡◌, ℕ, zero, suc, Bool, true, false, ◌&&◌, nat_eq, cond, if◌then◌else◌, List, [], ◌∷◌, find, Option, Some, None, codes}
use Rattle.std.specs.Str.{bytes_eq}
use Rattle.std.specs.List.{count_by}
use Rattle.std.specs.Option.{option_map}
use Rattle.cp_term.specs.declared.cell.Cell.{Cell}
use Rattle.cp_term.specs.declared.cell.Cell.TheVariants.{Var, Int, Atom, Func}
use Rattle.cp_term.specs.declared.pred_name.PredName.{PredName}
use Rattle.cp_term.specs.PredNameEq.{pred_name_eq}
use Rattle.cp_term.specs.Preorder.{take_terms, drop_terms}
use Rattle.cp_code.specs.declared.assertion.Assertion as code
use Rattle.cp_code.specs.declared.kind.Kind.{Kind}
use Rattle.cp_code.specs.declared.kind.Kind.TheVariants as kind
use Rattle.cp_code.specs.declared.pred_info.PredInfo.{PredInfo}
use Rattle.cp_code.specs.declared.pred_kind.PredKind.{PredKind}
use Rattle.cp_code.specs.declared.pred_kind.PredKind.TheVariants as pred_kind
use Rattle.cp_code.specs.declared.clause.Clause.{Clause}
use Rattle.cp_code.specs.declared.program.Program.{Program}
use Rattle.cp_code.specs.declared.status.Status.{Status}
use Rattle.cp_code.specs.declared.status.Status.TheVariants as status
use Rattle.cp_code.specs.Bodies.{is}
use Rattle.cp_code.specs.Programs.{is_check, is_named, prop_of}
use Rattle.cp_code.specs.Properties.{Prop, Always}
use Rattle.cp_assertion.specs.declared.assertion_error.AssertionError.{AssertionError}
use Rattle.cp_assertion.specs.declared.assertion_error.AssertionError.TheVariants as refusal
use Rattle.cp_assertion.specs.declared.standing.Standing.{Standing}
use Rattle.cp_assertion.specs.declared.standing.Standing.TheVariants as standing
use Rattle.cp_assertion.specs.declared.draft.Draft as drafts
use Rattle.cp_assertion.specs.Names.{is_type_of}
use Rattle.cp_assertion.specs.Formulas.{formula, is_known, SpeaksOf}

-- ---- what is declared

abbrev pub kind_named : List ℕ → Option Kind
kind_named f =
    if is f "pred" then Some kind.Pred
    else if is f "calls" then Some kind.Calls
    else if is f "success" then Some kind.Success
    else if is f "comp" then Some kind.Comp
    else None

abbrev pub status_named : List ℕ → Option Status
status_named f =
    if is f "check" then Some status.Check
    else if is f "trust" then Some status.Trust
    else if is f "true" then Some status.Believed
    else if is f "checked" then Some status.Checked
    else if is f "false" then Some status.Refuted
    else None

pub record Declared : Type 0 where
  pub status : Status
  pub kind : Kind
  pub body : List Cell

abbrev pub with_kind : Status → List Cell → Option Kind → Option Declared
with_kind s body (Some k) = Some (record { status = s; kind = k; body = body })
with_kind s body None = None

-- `Kind Body`
abbrev pub of_kind : Status → List Cell → Option Declared
of_kind s (Func f (suc zero) ∷ body) = with_kind s body (kind_named f)
of_kind s cells = None

abbrev pub declared_as : List Cell → Option Status → Option Kind → Option Declared
declared_as cells (Some s) k = of_kind s cells
declared_as cells None k = with_kind status.Check cells k

-- `Kind Body`, of which `check` is meant, or `Status Kind Body`
abbrev pub declared : List Cell → Option Declared
declared (Func f (suc zero) ∷ cells) = declared_as cells (status_named f) (kind_named f)
declared cells = None

-- ---- the form of its body

-- the two sides of an operator
pub record Sides : Type 0 where
  pub left : List Cell
  pub right : List Cell

abbrev pub is_infix : List ℕ → Cell → Bool
is_infix op (Var v) = false
is_infix op (Int i) = false
is_infix op (Atom a) = false
is_infix op (Func f k) = bytes_eq f op && nat_eq k 2

abbrev pub sides : List ℕ → List Cell → Option Sides
sides op [] = None
sides op (c ∷ cells) = cond (is_infix op c) (Some (record { left = take_terms 1 cells; right = drop_terms 1 cells })) None

abbrev pub left_of : List Cell → Option Sides → List Cell
left_of cells None = cells
left_of cells (Some s) = s.left

abbrev pub right_of : Option Sides → Option (List Cell)
right_of None = None
right_of (Some s) = Some s.right

-- a term without the operator and what follows it
abbrev pub before_infix : List ℕ → List Cell → List Cell
before_infix op cells = left_of cells (sides op cells)

-- what follows the operator, if the term has one
abbrev pub behind_infix : List ℕ → List Cell → Option (List Cell)
behind_infix op cells = right_of (sides op cells)

pub record Form : Type 0 where
  pub head : List Cell
  pub before : Option (List Cell)
  pub after : Option (List Cell)

abbrev pub form_of_call : List Cell → Option (List Cell) → Form
form_of_call cells after = record { head = before_infix (codes ":") cells; before = behind_infix (codes ":") cells; after = after }

abbrev pub form_of_exit : List Cell → Form
form_of_exit cells = form_of_call (before_infix (codes "=>") cells) (behind_infix (codes "=>") cells)

abbrev pub form_of : List Cell → Form
form_of body = form_of_exit (before_infix (codes "#") body)

-- ---- its head

pub record Head : Type 0 where
  pub name : List ℕ
  pub arity : ℕ

-- the variables n, n + 1, .., each of which is a new one
abbrev pub are_variables_from : ℕ → List Cell → Bool
are_variables_from n [] = true
are_variables_from n (Var v ∷ cells) = nat_eq v n && are_variables_from (suc n) cells
are_variables_from n (Int i ∷ cells) = false
are_variables_from n (Atom a ∷ cells) = false
are_variables_from n (Func f k ∷ cells) = false

-- an atom, or a compound whose arguments are distinct variables
abbrev pub head_in : List Cell → Option Head
head_in (Atom a ∷ []) = Some (record { name = a; arity = 0 })
head_in (Func f k ∷ cells) = cond (are_variables_from 0 cells) (Some (record { name = f; arity = k })) None
head_in cells = None

-- ---- an assertion before its names are looked up

pub record Draft : Type 0 where
  pub status : Status
  pub kind : Kind
  pub name : List ℕ
  pub arity : ℕ
  -- the two formulas; none where a term is no formula
  pub before : Option Prop
  pub after : Option Prop

pub data Drafted : Type 0 where
  NoAssertion : Drafted
  NoHead : Drafted
  IsDraft : Draft → Drafted

-- a formula that is left out holds
abbrev pub formula_or_always : ℕ → Option (List Cell) → Option Prop
formula_or_always n None = Some Always
formula_or_always n (Some cells) = formula n (before_infix (codes "+") cells)

abbrev pub drafted_head : Declared → Form → Option Head → Drafted
drafted_head d form None = NoHead
drafted_head d form (Some h) = IsDraft (record {
  status = d.status;
  kind = d.kind;
  name = h.name;
  arity = h.arity;
  before = formula_or_always h.arity form.before;
  after = formula_or_always h.arity form.after;
})

abbrev pub drafted_form : Declared → Form → Drafted
drafted_form d form = drafted_head d form (head_in (before_infix (codes "+") form.head))

abbrev pub drafted_body : Option Declared → Drafted
drafted_body None = NoAssertion
drafted_body (Some d) = drafted_form d (form_of d.body)

-- the body of a declaration as an assertion
unfoldable pub drafted : List Cell → Drafted
drafted cells = drafted_body (declared cells)

-- ---- the whole

pub record Assertion : Type 0 where
  pub status : Status
  pub kind : Kind
  pub name : List ℕ
  pub arity : ℕ
  pub before : Prop
  pub after : Prop

pub data Outcome : Type 0 where
  Reads : Assertion → Outcome
  Refused : AssertionError → Outcome

abbrev pub with_formulas : Draft → Option Prop → Option Prop → Option Assertion
with_formulas d (Some p) (Some q) = Some (record { status = d.status; kind = d.kind; name = d.name; arity = d.arity; before = p; after = q })
with_formulas d (Some p) None = None
with_formulas d None q = None

-- all names in a formula are those of properties
abbrev pub is_known_formula : (is_type : List ℕ → Bool) → Option Prop → Bool
is_known_formula is_type None = false
is_known_formula is_type (Some p) = is_known is_type p

abbrev pub are_known : (is_type : List ℕ → Bool) → Draft → Bool
are_known is_type d = is_known_formula is_type d.before && is_known_formula is_type d.after

abbrev pub unless_shared : Standing → Option Assertion → Outcome
unless_shared standing.NotDefined a = Refused refusal.BadHead
unless_shared standing.Defined None = Refused refusal.BadProperty
unless_shared standing.Defined (Some a) = Reads a
unless_shared standing.Shared None = Refused refusal.BadProperty
unless_shared standing.Shared (Some a) = Refused refusal.OnShared

abbrev pub settled_draft : Standing → (known : Bool) → Draft → Outcome
settled_draft s known d = unless_shared s (cond known (with_formulas d d.before d.after) None)

abbrev pub settled : (standing_of : List ℕ → ℕ → Standing) → (is_type : List ℕ → Bool) → Drafted → Outcome
settled standing_of is_type NoAssertion = Refused refusal.NotAssertion
settled standing_of is_type NoHead = Refused refusal.BadHead
settled standing_of is_type (IsDraft d) = settled_draft (standing_of d.name d.arity) (are_known is_type d) d

-- what the body of a declaration is as an assertion, by what its module defines and by the regular types that there are
abbrev pub assertion : (standing_of : List ℕ → ℕ → Standing) → (is_type : List ℕ → Bool) → List Cell → Outcome
assertion standing_of is_type cells = settled standing_of is_type (drafted cells)

-- ---- in a program

-- what a module defines: predicates that have a clause of it, and those that it declares shared
abbrev pub standing_of_kind : PredKind → List Clause → Standing
standing_of_kind pred_kind.Rules [] = standing.NotDefined
standing_of_kind pred_kind.Rules (c ∷ clauses) = standing.Defined
standing_of_kind (pred_kind.Concurrent n) clauses = standing.Shared
standing_of_kind (pred_kind.Plain n) clauses = standing.Shared
standing_of_kind (pred_kind.Remote n) clauses = standing.NotDefined

abbrev pub standing_of_pred : Option PredInfo → Standing
standing_of_pred None = standing.NotDefined
standing_of_pred (Some p) = standing_of_kind p.kind p.clauses

abbrev pub standing_in : List PredInfo → (module_name name : List ℕ) → ℕ → Standing
standing_in preds m f k = standing_of_pred (find (λ (p : PredInfo). is_named m f k p.name) preds)

-- a term as an assertion of a module of a program
abbrev pub assertion_in : Program → (module_name : List ℕ) → List Cell → Outcome
assertion_in p m cells = assertion (standing_in p.preds m) (is_type_of p.types) cells

-- how many assertions of a predicate are tested
abbrev pub checks_of : PredName → List code.Assertion → ℕ
checks_of p assertions = count_by (λ (a : code.Assertion). is_check a.status && pred_name_eq a.pred p) assertions

-- those that are tested are numbered from 1 on, and the others have the number 0
abbrev pub number_after : Status → ℕ → ℕ
number_after s earlier = cond (is_check s) (suc earlier) 0

-- ---- as the code has them

abbrev pub draft_shown : drafts.Draft → Draft
draft_shown d = record {
  status = d.status;
  kind = d.kind;
  name = d.name;
  arity = d.arity;
  before = option_map prop_of d.before;
  after = option_map prop_of d.after;
}

abbrev pub drafted_shown : Option drafts.Draft → Drafted
drafted_shown None = NoHead
drafted_shown (Some d) = IsDraft (draft_shown d)

abbrev pub shown : code.Assertion → Assertion
shown a = record {
  status = a.status;
  kind = a.kind;
  name = a.pred.name;
  arity = a.pred.arity;
  before = prop_of a.before;
  after = prop_of a.after;
}

-- the refusal is the one that the definition gives, or want of memory
abbrev pub IsRefusal : Outcome → AssertionError → Type 0
IsRefusal o refusal.NotAssertion = o ≡ Refused refusal.NotAssertion
IsRefusal o refusal.BadHead = o ≡ Refused refusal.BadHead
IsRefusal o refusal.BadProperty = o ≡ Refused refusal.BadProperty
IsRefusal o refusal.OnShared = o ≡ Refused refusal.OnShared
IsRefusal o refusal.NoMemory = Unit {0}

-- the same of a draft
abbrev pub IsDraftRefusal : Drafted → AssertionError → Type 0
IsDraftRefusal d refusal.NotAssertion = d ≡ NoAssertion
IsDraftRefusal d refusal.BadHead = d ≡ NoHead
IsDraftRefusal d refusal.BadProperty = ⊥
IsDraftRefusal d refusal.OnShared = ⊥
IsDraftRefusal d refusal.NoMemory = Unit {0}

-- ---- what the formulas speak of

abbrev pub FormulaSpeaksOf : ℕ → Option Prop → Type 0
FormulaSpeaksOf n None = Unit {0}
FormulaSpeaksOf n (Some p) = SpeaksOf n p

-- the formulas of a draft speak of arguments that its predicate has
abbrev pub DraftSpeaksOfArguments : Draft → Type 0
DraftSpeaksOfArguments d = FormulaSpeaksOf d.arity d.before × FormulaSpeaksOf d.arity d.after

-- and so do those of an assertion
abbrev pub SpeaksOfArguments : code.Assertion → Type 0
SpeaksOfArguments a = SpeaksOf a.pred.arity (prop_of a.before) × SpeaksOf a.pred.arity (prop_of a.after)

-- ---- what else an assertion has

-- it is of this predicate, and has this line and its number after so many that are tested
pub record IsPlaced (p : PredName) (line earlier : ℕ) (a : code.Assertion) : Type 0 where
  pub pred_is : a.pred ≡ p
  pub line_is : a.line ≡ line
  pub number_is : a.number ≡ number_after a.status earlier

-- it is of a predicate of this module, and has this line and its number after those of its predicate
pub record IsPlacedAmong (m : List ℕ) (line : ℕ) (assertions : List code.Assertion) (a : code.Assertion) : Type 0 where
  pub module_is : a.pred.module ≡ m
  pub line_is : a.line ≡ line
  pub number_is : a.number ≡ number_after a.status (checks_of a.pred assertions)
