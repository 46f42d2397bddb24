-- A program as its goals see it, and what a run needs of it.
use Rattle.std.specs.Prelude.{ℕ, ◌+◌, ◌≤◌, Bool, true, false, ◌&&◌, ◌||◌, nat_eq, cond, List, [], map, length, find, position, slice_get, unwrap_or, Option, Some, None, codes}
use Rattle.std.specs.List.{filter_map}
use Rattle.std.specs.Str.{bytes_eq}
use Rattle.std.proofs.Math.Nat.{le-add_right}
use Rattle.cp_term.specs.declared.cell.Cell.{Cell}
use Rattle.cp_term.specs.declared.pred_name.PredName.{PredName}
use Rattle.cp_term.specs.PredNameEq.{pred_name_eq}
use Rattle.cp_term.specs.Numbering.{next_variable}
use Rattle.cp_ops.specs.Table.{Ops}
use Rattle.cp_ops.specs.Standard.{standard}
use Rattle.cp_call.specs.Setup.{SharedPred, ProgramParts}
use Rattle.cp_code.specs.declared.assertion.Assertion.{Assertion}
use Rattle.cp_code.specs.declared.clause.Clause.{Clause}
use Rattle.cp_code.specs.declared.import.Import.{Import}
use Rattle.cp_code.specs.declared.kind.Kind.{Kind}
use Rattle.cp_code.specs.declared.kind.Kind.TheVariants as kind
use Rattle.cp_code.specs.declared.pred_info.PredInfo.{PredInfo}
use Rattle.cp_code.specs.declared.pred_kind.PredKind.{PredKind}
use Rattle.cp_code.specs.declared.pred_kind.PredKind.TheVariants as pred_kind
use Rattle.cp_code.specs.declared.program.Program.{Program}
use Rattle.cp_code.specs.declared.prop.Prop.{Prop}
use Rattle.cp_code.specs.declared.prop.Prop.TheVariants as prop
use Rattle.cp_code.specs.declared.status.Status.{Status}
use Rattle.cp_code.specs.declared.status.Status.TheVariants as status
use Rattle.cp_code.specs.declared.type_row.TypeRow.{TypeRow}
use Rattle.cp_code.specs.Bodies.{Body, Fail, is, body_of}
use Rattle.cp_code.specs.Checks as checks
use Rattle.cp_code.specs.Clauses.{head_of, body_term}
use Rattle.cp_code.specs.Code as code
use Rattle.cp_code.specs.Properties as properties

-- ---- clauses and predicates

abbrev pub or_fail : Option Body → Body
or_fail (Some b) = b
or_fail None = Fail

-- A rule's body, as the module of its file sees it; a fact has none. A body that holds a term that is no goal is refused when
-- it is loaded; as a total definition it is `fail`.
abbrev pub body_in : List ℕ → Option (List Cell) → Option Body
body_in m None = None
body_in m (Some b) = Some (or_fail (body_of m b))

abbrev pub clause_of : Clause → code.Clause
clause_of c = record { head = head_of c.whole; body = body_in c.module (body_term c.whole); variables = next_variable c.whole }

-- a property as the definition has it
abbrev pub prop_of : Prop → properties.Prop
prop_of (prop.Of name n) = properties.Of name n
prop_of (prop.ListOf name n) = properties.ListOf name n
prop_of (prop.Both' p first q second) = properties.Both (prop_of first) (prop_of second)
prop_of (prop.Either' p first q second) = properties.Either (prop_of first) (prop_of second)
prop_of prop.Always = properties.Always

-- what an assertion tests, if it is tested at all: calls, success or both, and only where its status is `check`
abbrev pub tested_kind : Kind → Option checks.Kind
tested_kind kind.Pred = Some checks.OfPred
tested_kind kind.Calls = Some checks.OfCalls
tested_kind kind.Success = Some checks.OfSuccess
tested_kind kind.Comp = None

abbrev pub is_check : Status → Bool
is_check status.Check = true
is_check status.Trust = false
is_check status.Believed = false
is_check status.Checked = false
is_check status.Refuted = false

abbrev pub check_of_kind : Assertion → Option checks.Kind → Option checks.Check
check_of_kind a None = None
check_of_kind a (Some k) = Some (record { number = a.number; kind = k; before = prop_of a.before; after = prop_of a.after })

-- the test of an assertion, if it is one of this predicate and is tested
abbrev pub check_on : PredName → Assertion → Option checks.Check
check_on p a = cond (is_check a.status && pred_name_eq a.pred p) (check_of_kind a (tested_kind a.kind)) None

abbrev pub kind_of : List checks.Check → List code.Clause → PredKind → code.Kind
kind_of cs rules pred_kind.Rules = code.Rules cs rules
kind_of cs rules (pred_kind.Concurrent n) = code.Shared n true
kind_of cs rules (pred_kind.Plain n) = code.Shared n false
kind_of cs rules (pred_kind.Remote n) = code.Remote

abbrev pub pred_of : List Assertion → PredInfo → code.Pred
pred_of assertions p = record {
  name = p.name;
  goals = p.goals;
  kind = kind_of (filter_map (check_on p.name) assertions) (map clause_of p.clauses) p.kind;
}

-- ---- what a module sees

abbrev pub is_named : (module_name name : List ℕ) → ℕ → PredName → Bool
is_named m f k p = bytes_eq p.module m && bytes_eq p.name f && nat_eq p.arity k

-- the number of a module's own predicate
abbrev pub own_pred : List PredInfo → (module_name name : List ℕ) → (arity : ℕ) → Option ℕ
own_pred preds m f k = position (λ (p : PredInfo). is_named m f k p.name) preds

-- a module imports a predicate of this name and arity
abbrev pub imports_as : (seer name : List ℕ) → ℕ → Import → Bool
imports_as seer f k i = bytes_eq i.seer seer && bytes_eq i.pred.name f && nat_eq i.pred.arity k

abbrev pub imported_pred : List PredInfo → Option Import → Option ℕ
imported_pred preds None = None
imported_pred preds (Some i) = own_pred preds i.pred.module i.pred.name i.pred.arity

-- the predicates of the prelude that every module sees
abbrev pub is_of_prelude : List ℕ → ℕ → Bool
is_of_prelude f k =
    (is f "append" && nat_eq k 3) || (is f "member" && nat_eq k 2) || (is f "length" && nat_eq k 2) || (is f "between" && nat_eq k 3) || (is f "once" && nat_eq k 1)

abbrev pub or_else : Option ℕ → Option ℕ → Option ℕ
or_else (Some n) other = Some n
or_else None other = other

-- The number of the predicate that a module sees under a name and arity: its own, or else one that it imports, or else one
-- of the prelude.
abbrev pub sees : List PredInfo → List Import → (seer name : List ℕ) → (arity : ℕ) → Option ℕ
sees preds imports seer f k =
    or_else (own_pred preds seer f k)
    (or_else (imported_pred preds (find (imports_as seer f k) imports))
    (cond (is_of_prelude f k) (own_pred preds (codes "prelude") f k) None))

-- ---- operators and types

abbrev pub ops_at : List Ops → Option ℕ → Option Ops
ops_at tables None = None
ops_at tables (Some n) = slice_get tables n

-- the operators of a module of a file at the end of that file
abbrev pub own_ops : List (List ℕ) → List Ops → List ℕ → Option Ops
own_ops names tables m = ops_at tables (position (λ name. bytes_eq name m) names)

-- and the standard ones of every other module
abbrev pub ops_of : List (List ℕ) → List Ops → List ℕ → Ops
ops_of names tables m = unwrap_or (own_ops names tables m) standard

abbrev pub type_of : TypeRow → properties.TypeRow
type_of t = record { name = t.name; clauses = map (λ (c : Clause). c.whole) t.clauses }

-- ---- the whole

-- a program with the step budget of each goal, as its goals see it
abbrev pub code_of : Program → ℕ → code.Code
code_of p budget = record {
  first = p.first;
  preds = map (pred_of p.checks) p.preds;
  renamed = [];
  sees = sees p.preds p.imports;
  types = map type_of p.types;
  ops = ops_of p.modules p.ops;
  budget = budget;
}

-- how many shared objects a program has: the two lists of goals, and its shared predicates
abbrev pub objects_of : Program → ℕ
objects_of p = 2 + length p.shared

pub objects_of-lists : (p : Program) → 2 ≤ objects_of p
objects_of-lists p = le-add_right 2 (length p.shared)

-- ---- what a run begins with

abbrev pub is_data : PredKind → Bool
is_data pred_kind.Rules = false
is_data (pred_kind.Concurrent n) = false
is_data (pred_kind.Plain n) = true
is_data (pred_kind.Remote n) = false

abbrev pub shared_as : PredName → Option PredInfo → SharedPred
shared_as name None = record { name = name; is_data = false; opening = [] }
shared_as name (Some p) = record { name = name; is_data = is_data p.kind; opening = map (λ (c : Clause). head_of c.whole) p.clauses }

-- a shared predicate by its name, with its facts as they stand in its file
abbrev pub shared_pred : List PredInfo → PredName → SharedPred
shared_pred preds name = shared_as name (find (λ (p : PredInfo). pred_name_eq p.name name) preds)

abbrev pub parts_of : Program → ProgramParts
parts_of p = record { first = p.first; shared = map (shared_pred p.preds) p.shared; exports = p.exports }
