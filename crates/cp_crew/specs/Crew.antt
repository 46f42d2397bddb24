-- What a crew leaves of its shells, objects, port and callers.
use Rattle.std.specs.Prelude.{◌≡◌, ◌<◌, ℕ, true, false, Bool, List, [], ◌∷◌, ◌++◌, length, Option, Some, None, IfSome, slice_get}
use Rattle.cp_call.specs.declared.item.Item.{Item}
use Rattle.cp_call.specs.declared.item.RemoteCall.{RemoteCall}
use Rattle.cp_call.specs.declared.item.RemoteReply.{RemoteReply}
use Rattle.cp_call.specs.declared.outcome.OutEntry.{OutEntry}
use Rattle.cp_call.specs.Added.{Leads}
use Rattle.cp_call.specs.Life.{Rule}
use Rattle.cp_call.specs.Sound.{Going, Sound}
use Rattle.cp_shell.specs.Shell.{ShellView}
use Rattle.cp_hall.specs.Hall.{HallObject, AreLegal, objects_of}
use Rattle.cp_out.specs.Port.{PortView, GoesOn}
use Rattle.cp_schedule.specs.Record.{AreDriven, IsReady, workers_setup}
use Rattle.cp_schedule.specs.Ended.{record_ended}
use Rattle.cp_schedule.specs.Awake.{AllParked}
use Rattle.cp_crew_end.specs.Engines.{HasOnlyEngines}

-- A shell and its caller later on: the same number and code, with events more. Once memory has stopped it, it stays stopped.
-- Where memory has not, the remote calls among these events led its caller from then to now.
pub record IsLaterShell {M C Code : Type 0} (code : M → Code) (went : C → RemoteCall → RemoteReply → C → Type 0) (s now : ShellView M) (caller caller_now : C) : Type 0 where
  pub number : now.number ≡ s.number
  pub code_is : code now.machine ≡ code s.machine
  pub added : List Item
  pub items : now.items ≡ s.items ++ added
  pub stops : s.is_stopped ≡ true → now.is_stopped ≡ true
  pub calls : now.is_stopped ≡ false → Leads went caller added caller_now

-- the same of each shell with the caller at its place, of whom there are as many as before
abbrev pub AreLater : {M C Code : Type 0} → (code : M → Code) → (went : C → RemoteCall → RemoteReply → C → Type 0) → (shells now : List (ShellView M)) → (callers callers_now : List C) → Type 0
AreLater code went [] [] [] [] = Unit {0}
AreLater code went (s ∷ ss) (t ∷ ts) (b ∷ bs) (c ∷ cs) = IsLaterShell code went s t b c × AreLater code went ss ts bs cs
AreLater code went ss ts bs cs = ⊥

-- memory has stopped none of the shells
abbrev pub NoneStopped : {M : Type 0} → List (ShellView M) → Type 0
NoneStopped {M} shells = (i : ℕ) (s : ShellView M) → slice_get shells i ≡ Some s → s.is_stopped ≡ false

-- Shells of one code, numbered from 1 on, that drive running workers over these objects and this port, where nobody else has
-- asked or written, and as many callers: a round may begin.
pub record MayBegin {M C Code : Type 0} (code : M → Code) (asks : Code → Rule) (count : Code → ℕ) (shells : List (ShellView M)) (hall : List HallObject) (port : List OutEntry) (callers : List C) : Type 0 where
  pub some : 0 < length shells
  pub callers_are : length callers ≡ length shells
  pub ready : IsReady code asks count shells hall port
  pub only : HasOnlyEngines (length shells) hall port

-- Shells, objects and port later on: the same objects, which the shells drive if they did, and nobody else has asked or written.
pub record IsFurther {M Code : Type 0} (code : M → Code) (asks : Code → Rule) (shells now : List (ShellView M)) (hall hall_now : List HallObject) (port port_now : List OutEntry) : Type 0 where
  pub objects : objects_of hall_now ≡ objects_of hall
  pub driven : (k : Code) → AreDriven code asks k (objects_of hall) shells hall port → AreDriven code asks k (objects_of hall) now hall_now port_now
  pub only : HasOnlyEngines (length now) hall_now port_now
  pub legal : AreLegal hall_now

-- What rounds leave of a crew. The hall is missing only where memory is said to be short. Where it is there, and whether
-- memory is short or not, the shells drive running workers still.
pub record HasGoneOn {M S C Code : Type 0} (code : M → Code) (asks : Code → Rule) (went : C → RemoteCall → RemoteReply → C → Type 0)
    (shells now : List (ShellView M)) (hall : List HallObject) (hall_now : Option (List HallObject)) (port port_now : PortView S) (callers callers_now : List C) (memory : Bool) : Type 0 where
  pub later : AreLater code went shells now callers callers_now
  pub goes_on : GoesOn port port_now
  pub further : IfSome hall_now (λ h. IsFurther code asks shells now hall h port.entries port_now.entries)
  pub missing : hall_now ≡ None → memory ≡ true
  pub works : memory ≡ false → NoneStopped now

-- Shells that drive running workers over a hall and a port, of which nobody else has entries, are going.
abbrev pub GoesIfDriven : {M Code : Type 0} → (code : M → Code) → (asks : Code → Rule) → List (ShellView M) → List HallObject → List OutEntry → Type 0
GoesIfDriven {M} {Code} code asks shells hall port = (k : Code) (steps : ℕ) → AreDriven code asks k (objects_of hall) shells hall port → AreLegal hall → HasOnlyEngines (length shells) hall port
    → Going (workers_setup (asks k) (objects_of hall)) (record_ended steps shells hall port)

-- Where besides each of them stands parked, they are sound.
abbrev pub IsSoundIfParked : {M Code : Type 0} → (code : M → Code) → (asks : Code → Rule) → List (ShellView M) → List HallObject → List OutEntry → Type 0
IsSoundIfParked {M} {Code} code asks shells hall port = (k : Code) (steps : ℕ) → AreDriven code asks k (objects_of hall) shells hall port → AreLegal hall → HasOnlyEngines (length shells) hall port → AllParked hall shells
    → Sound (workers_setup (asks k) (objects_of hall)) (record_ended steps shells hall port)
