-- The record of a run at its end, and what a simulation leaves.
use Rattle.std.specs.Prelude.{ℕ, ◌+◌, ◌≡◌, List, [], map, length, Option, Some, None, slice_get}
use Rattle.cp_call.specs.declared.outcome.Stand.TheVariants as stand
use Rattle.cp_call.specs.declared.outcome.EngineEnd.{EngineEnd}
use Rattle.cp_call.specs.declared.outcome.OutEntry.{OutEntry}
use Rattle.cp_call.specs.declared.outcome.Outcome.{Outcome}
use Rattle.cp_call.specs.Sound.{Setup, Going}
use Rattle.cp_shell.specs.Parked.{parked_object}
use Rattle.cp_shell.specs.Shell.{ShellView}
use Rattle.cp_hall.specs.Hall.{HallObject, objects_of, history_at}
use Rattle.cp_out.specs.Port.{Records}
use Rattle.cp_schedule.specs.Record.{AreNew, pred_now}

-- the number of an object, and 0 where there is none
abbrev pub object_number : Option ℕ → ℕ
object_number None = 0
object_number (Some p) = p

-- an engine at the end: it stands where its last event left it parked
abbrev pub engine_ended : {M : Type 0} → ShellView M → EngineEnd
engine_ended s = record { number = s.number; items = s.items; stand = stand.Parked (object_number (parked_object s.items)) }

-- the outcome of these shells over this hall and this port, where each goal has this step budget
abbrev pub record_ended : {M : Type 0} → (steps : ℕ) → List (ShellView M) → List HallObject → List OutEntry → Outcome
record_ended steps shells hall port = record { steps = steps; engines = map engine_ended shells; preds = map pred_now hall; port = port }

-- Shells of one code that have done nothing yet, over objects that nobody has asked yet.
pub record IsFresh {M Code : Type 0} (code : M → Code) (count : Code → ℕ) (shells : List (ShellView M)) (hall : List HallObject) : Type 0 where
  pub code_is : Code
  pub new : AreNew code code_is shells
  pub counts : count code_is ≡ length (objects_of hall)
  pub unasked : (p : ℕ) → history_at hall p ≡ []

-- Engine n is a worker, which stands parked on an object.
pub record StandsParked (n : ℕ) (e : EngineEnd) : Type 0 where
  pub number : e.number ≡ n
  pub object : ℕ
  pub stand : e.stand ≡ stand.Parked object

-- The outcome is of this budget and of so many workers, which are numbered from 1 on in order.
pub record IsOfWorkers (steps count : ℕ) (o : Outcome) : Type 0 where
  pub steps_are : o.steps ≡ steps
  pub count_is : length o.engines ≡ count
  pub workers : (i : ℕ) (e : EngineEnd) → slice_get o.engines i ≡ Some e → StandsParked (i + 1) e

-- A run of so many workers has come as far as this outcome tells, be it to its end or to where memory stopped it, and the
-- sink has what its port wrote.
pub record HasRunTo {S : Type 0} (held : S → Option (List ℕ)) (faults : S → ℕ) (s : Setup) (steps count : ℕ) (first sink : S) (o : Outcome) : Type 0 where
  pub going : Going s o
  pub workers : IsOfWorkers steps count o
  pub records : Records held faults first o.port sink
