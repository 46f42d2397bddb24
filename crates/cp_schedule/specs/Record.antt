-- The record of a run at some moment: its engines by what their shells have kept, its objects in the states that their
-- histories leave, and the entries of its port.
use Rattle.std.specs.Prelude.{ℕ, ◌+◌, ◌≡◌, List, [], map, None, Some, slice_get, length}
use Rattle.cp_call.specs.declared.outcome.Stand.TheVariants as stand
use Rattle.cp_call.specs.declared.outcome.EngineEnd.{EngineEnd}
use Rattle.cp_call.specs.declared.outcome.OutEntry.{OutEntry}
use Rattle.cp_call.specs.declared.outcome.PredEnd.{PredEnd}
use Rattle.cp_call.specs.declared.outcome.Outcome.{Outcome}
use Rattle.cp_call.specs.Life.{Rule}
use Rattle.cp_call.specs.Running.{IsRunning}
use Rattle.cp_call.specs.Progress.{GoesOnBy, Pick}
use Rattle.cp_call.specs.Sound.{Object, Setup, own_writes}
use Rattle.cp_list.specs.Lists.{IsPrefix}
use Rattle.cp_shell.specs.Shell.{ShellView}
use Rattle.cp_hall.specs.Hall.{HallObject, objects_of, history_at, state_now}

-- an engine while it works, before it is said where it stands
abbrev pub engine_now : {M : Type 0} → ShellView M → EngineEnd
engine_now s = record { number = s.number; items = s.items; stand = stand.Parked 0 }

-- an object of a hall as it would end now
abbrev pub pred_now : HallObject → PredEnd
pred_now o = record {
  name = o.object.name;
  opening = o.object.opening;
  history = o.history;
  facts = (state_now o).facts;
  is_open = (state_now o).is_open;
  parked = (state_now o).parked;
}

-- the record of these shells over this hall and this port, where each goal has this step budget
abbrev pub record_now : {M : Type 0} → (steps : ℕ) → List (ShellView M) → List HallObject → List OutEntry → Outcome
record_now steps shells hall port = record { steps = steps; engines = map engine_now shells; preds = map pred_now hall; port = port }

-- what a run of workers with this rule is of, over these objects
abbrev pub workers_setup : Rule → List Object → Setup
workers_setup rule objects = record { rule = rule; objects = objects; served = None }

-- Shells that are numbered from 1 on and run one code each drive a running worker of it, over this hall and this port.
pub record AreDriven {M Code : Type 0} (code : M → Code) (asks : Code → Rule) (k : Code) (objects : List Object) (shells : List (ShellView M)) (hall : List HallObject) (port : List OutEntry) : Type 0 where
  pub numbers : (i : ℕ) (s : ShellView M) → slice_get shells i ≡ Some s → s.number ≡ i + 1
  pub codes : (i : ℕ) (s : ShellView M) → slice_get shells i ≡ Some s → code s.machine ≡ k
  pub objects_are : objects_of hall ≡ objects
  pub running : (i : ℕ) (s : ShellView M) → slice_get shells i ≡ Some s → IsRunning (asks k) objects (history_at hall) (own_writes (i + 1) port) (i + 1) s.items

-- Shells of one code that is over the objects of the hall, which they drive.
pub record IsReady {M Code : Type 0} (code : M → Code) (asks : Code → Rule) (count : Code → ℕ) (shells : List (ShellView M)) (hall : List HallObject) (port : List OutEntry) : Type 0 where
  pub code_is : Code
  pub driven : AreDriven code asks code_is (objects_of hall) shells hall port
  pub counts : count code_is ≡ length (objects_of hall)

-- These shells, hall and port come after those, over the same objects: each has grown at its end alone, the shells drive
-- running workers if they did, and the record has gone on by events of its workers.
pub record IsLater {M Code : Type 0} (code : M → Code) (asks : Code → Rule) (shells shells_now : List (ShellView M)) (hall hall_now : List HallObject) (port port_now : List OutEntry) : Type 0 where
  pub count : length shells_now ≡ length shells
  pub objects : objects_of hall_now ≡ objects_of hall
  pub grows : (q : ℕ) → IsPrefix (history_at hall q) (history_at hall_now q)
  pub port_grows : IsPrefix port port_now
  pub driven : (k : Code) → AreDriven code asks k (objects_of hall) shells hall port → AreDriven code asks k (objects_of hall) shells_now hall_now port_now
  pub goes_on : (k : Code) (steps : ℕ) → AreDriven code asks k (objects_of hall) shells hall port
      → (picks : List Pick) × GoesOnBy (workers_setup (asks k) (objects_of hall)) (record_now steps shells hall port) picks (record_now steps shells_now hall_now port_now)

-- Whatever code the shells drive, and whatever the step budget is, `leads` holds from the record of these shells, this hall
-- and this port to the record of those.
abbrev pub RecordLeads : {M Code : Type 0} → (code : M → Code) → (asks : Code → Rule) → (shells shells_now : List (ShellView M)) → (hall hall_now : List HallObject) → (port port_now : List OutEntry) → (leads : Setup → Outcome → Outcome → Type 0) → Type 0
RecordLeads {M} {Code} code asks shells shells_now hall hall_now port port_now leads =
    (k : Code) (steps : ℕ) → AreDriven code asks k (objects_of hall) shells hall port
    → leads (workers_setup (asks k) (objects_of hall)) (record_now steps shells hall port) (record_now steps shells_now hall_now port_now)

-- Shells that have done nothing yet: they are numbered from 1 on, and run one code each.
pub record AreNew {M Code : Type 0} (code : M → Code) (k : Code) (shells : List (ShellView M)) : Type 0 where
  pub numbers : (i : ℕ) (s : ShellView M) → slice_get shells i ≡ Some s → s.number ≡ i + 1
  pub codes : (i : ℕ) (s : ShellView M) → slice_get shells i ≡ Some s → code s.machine ≡ k
  pub idle : (i : ℕ) (s : ShellView M) → slice_get shells i ≡ Some s → s.items ≡ []
