-- What a run of a program is of: which shared objects there are, what they begin with, and what is asked of lanes.
use Rattle.std.specs.Prelude.{ℕ, Bool, true, false, List, [], ◌∷◌, map, Option, Some, None, codes}
use Rattle.cp_term.specs.declared.cell.Cell.{Cell}
use Rattle.cp_term.specs.declared.cell.Cell.TheVariants.{Atom, Func}
use Rattle.cp_term.specs.declared.pred_name.PredName.{PredName}
use Rattle.cp_call.specs.declared.call.ObjectKind.{ObjectKind}
use Rattle.cp_call.specs.declared.call.ObjectKind.TheVariants as kind
use Rattle.cp_call.specs.declared.call.ObjectName.TheVariants as name
use Rattle.cp_call.specs.declared.outcome.Outcome.{Outcome}
use Rattle.cp_call.specs.Life.{Rule}
use Rattle.cp_call.specs.Sound.{Object, Setup, objects_with, has_lane, Going, Sound}

-- A shared predicate of a program: its name, whether it is declared `data`, which never lets a caller wait, and its
-- opening facts in textual order.
pub record SharedPred : Type 0 where
  pub name : PredName
  pub is_data : Bool
  pub opening : List (List Cell)

-- What a run needs of a program beside what its goals do: its first module, its shared predicates in loading order, and
-- the predicates that its first module exports.
pub record ProgramParts : Type 0 where
  pub first : List ℕ
  pub shared : List SharedPred
  pub exports : List PredName

abbrev pub kind_of : (is_data : Bool) → ObjectKind
kind_of true = kind.Plain
kind_of false = kind.Concurrent

abbrev pub object_of : SharedPred → Object
object_of p = record { name = name.Pred p.name; kind = kind_of p.is_data; opening = p.opening }

-- the goal `M:main`
abbrev pub main_of : List ℕ → List Cell
main_of first = Func (codes ":") 2 ∷ Atom first ∷ Atom (codes "main") ∷ []

-- what the list of goals begins with: `M:main` alone, or nothing where lanes serve the program
abbrev pub opening_goals : List ℕ → (has_lanes : Bool) → List (List Cell)
opening_goals first true = []
opening_goals first false = main_of first ∷ []

-- what lanes serve, where there are any
abbrev pub served_by : List PredName → (has_lanes : Bool) → Option (List PredName)
served_by exports true = Some exports
served_by exports false = None

-- What a run of a program is of, with lanes or without. `rule` is what its goals do under its step budget.
abbrev pub setup_of : Rule → ProgramParts → (has_lanes : Bool) → Setup
setup_of rule program has_lanes = record {
  rule = rule;
  objects = objects_with (opening_goals program.first has_lanes) (map object_of program.shared);
  served = served_by program.exports has_lanes;
}

-- An outcome is of a sound run of the program, where `rule_with` gives what its goals do with a step budget: the budget
-- is the one that the outcome names.
abbrev pub IsSoundRun : (rule_with : ℕ → Rule) → ProgramParts → Outcome → Type 0
IsSoundRun rule_with program o = Sound (setup_of (rule_with o.steps) program (has_lane o)) o

-- An outcome is a moment of a run of the program.
abbrev pub IsGoingRun : (rule_with : ℕ → Rule) → ProgramParts → Outcome → Type 0
IsGoingRun rule_with program o = Going (setup_of (rule_with o.steps) program (has_lane o)) o
