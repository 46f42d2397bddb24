-- What keeps a program good: so far, that each of its shared predicates is one of its shared objects.
use Rattle.std.specs.Prelude.{ℕ, ◌<◌, ◌≤◌, List, [], ◌∷◌}
use Rattle.cp_term.specs.declared.cell.Cell.{Cell}
use Rattle.cp_call.specs.declared.item.Input.{Input}
use Rattle.cp_call.specs.Machine.{IsInForm}
use Rattle.cp_code.specs.declared.pred_info.PredInfo.{PredInfo}
use Rattle.cp_code.specs.declared.pred_kind.PredKind.{PredKind}
use Rattle.cp_code.specs.declared.pred_kind.PredKind.TheVariants as pred_kind
use Rattle.cp_code.specs.declared.program.Program.{Program}
use Rattle.cp_code.specs.Code.{Code, Pred, Kind, Rules, Shared, Remote, Wrapped}
use Rattle.cp_code.specs.Programs.{code_of, objects_of}
use Rattle.cp_code.specs.Tree.{asks}

-- a shared predicate is one of so many objects
abbrev pub NamesObject : ℕ → PredKind → Type 0
NamesObject objects pred_kind.Rules = Unit {0}
NamesObject objects (pred_kind.Concurrent n) = n < objects
NamesObject objects (pred_kind.Plain n) = n < objects
NamesObject objects (pred_kind.Remote n) = Unit {0}

abbrev pub NameObjects : ℕ → List PredInfo → Type 0
NameObjects objects [] = Unit {0}
NameObjects objects (p ∷ preds) = NamesObject objects p.kind × NameObjects objects preds

pub record IsLawful (p : Program) : Type 0 where
  pub objects : NameObjects (objects_of p) p.preds

-- the same of a program as its goals see it
abbrev pub IsWithin : ℕ → Kind → Type 0
IsWithin objects (Rules checks rules) = Unit {0}
IsWithin objects (Shared object suspends) = object < objects
IsWithin objects Remote = Unit {0}
IsWithin objects (Wrapped checks p) = Unit {0}

abbrev pub AreWithin : ℕ → List Pred → Type 0
AreWithin objects [] = Unit {0}
AreWithin objects (p ∷ preds) = IsWithin objects p.kind × AreWithin objects preds

-- What goals ask is in form: they ask shared objects that there are; their answers, the balls that end them and what they
-- call of other modules have at most 4,096 cells; and what they call there are atoms and compounds.
abbrev pub AsksAreInForm : Type 0
AsksAreInForm = (objects : ℕ) → 2 ≤ objects → (code : Code) → AreWithin objects code.preds → (goal : List Cell) (inputs : List Input) → IsInForm objects (asks code goal inputs)

abbrev pub ProgramsAskInForm : Type 0
ProgramsAskInForm = (p : Program) → IsLawful p → (budget : ℕ) (goal : List Cell) (inputs : List Input) → IsInForm (objects_of p) (asks (code_of p budget) goal inputs)
