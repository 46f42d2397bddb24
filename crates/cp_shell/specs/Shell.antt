-- What contracts see of an engine's shell, and what it keeps.
use Rattle.std.specs.Prelude.{◌≡◌, ◌⊎◌, ℕ, Bool, true, false, List, [], ◌∷◌, ◌++◌, Option, Some, None, MatchOption, slice_get}
use Rattle.std.specs.List.{list_all}
use Rattle.cp_call.specs.declared.item.Item.{Item}
use Rattle.cp_call.specs.declared.item.Item.TheVariants as item
use Rattle.cp_call.specs.declared.item.Input.{Input}
use Rattle.cp_call.specs.declared.item.Next.{Next}
use Rattle.cp_call.specs.declared.call.Call.{Call}
use Rattle.cp_call.specs.declared.call.Reply.TheVariants as reply
use Rattle.cp_call.specs.declared.call.Entry.{Entry}
use Rattle.cp_call.specs.Life as life
use Rattle.cp_call.specs.Sound.{Object}
use Rattle.cp_shell.specs.declared.driven.Driven.{Driven}
use Rattle.cp_shell.specs.declared.driven.Driven.TheVariants as driven
use Rattle.cp_shell.specs.declared.stage.Stage.{Stage}
use Rattle.cp_shell.specs.Stage.{IsAt, is_settled}
use Rattle.cp_shell.specs.Asked.{StillWaits}
use Rattle.cp_shell.specs.Parked.{leaves_awake, parked_object, HasMade}

-- A shell: its engine's number, the machine, the events so far, and whether memory has stopped it.
pub record ShellView (M : Type 0) : Type 0 where
  pub number : ℕ
  pub machine : M
  pub items : List Item
  pub is_stopped : Bool

-- Between two turns a shell keeps the stage at which its worker is, where no remote call is due, and the object where the
-- last event has left it parked.
pub record IsAtTurn (rule : life.Rule) (objects : ℕ) (continuation : List Input → Next) (failed : Bool) (items : List Item) (parked : Option ℕ) (stage : Stage) : Type 0 where
  pub at : life.IsWorkersLife rule items → IsAt rule objects continuation failed (life.last_stage rule life.Idle items) stage
  pub settled : is_settled stage ≡ true
  pub parked_is : parked ≡ parked_object items

-- the same where memory has not stopped it
abbrev pub IsKeptShell : life.Rule → (objects : ℕ) → (continuation : List Input → Next) → (failed : Bool) → List Item → (parked : Option ℕ) → Option Stage → Type 0
IsKeptShell rule objects continuation failed items parked stage = MatchOption stage (Unit {0}) (IsAtTurn rule objects continuation failed items parked)

-- After a turn of worker n: it made an event and then the remote calls that were due, or it still waits at an object and
-- there was no event.
abbrev pub HasTakenTurn : List Object → (seen : ℕ → List Entry) → ℕ → (before now : List Item) → Type 0
HasTakenTurn objects seen n before now =
    HasMade before now ⊎ ((p : ℕ) × (c : Call) × (now ≡ before) × StillWaits (slice_get objects p) (seen p) n c)

-- Worker n was driven until it was parked on object p: its events left it awake but for the last, which was replied Parked
-- there; or it made none, since it still waits there.
pub record IsDrivenTo (objects : List Object) (seen : ℕ → List Entry) (n : ℕ) (before now : List Item) (p : ℕ) : Type 0 where
  pub call : Call
  pub cause : ((earlier : List Item) × (now ≡ before ++ (earlier ++ item.Asked p call reply.Parked ∷ [])) × (list_all leaves_awake earlier ≡ true))
      ⊎ ((now ≡ before) × StillWaits (slice_get objects p) (seen p) n call)

-- Where driving it ended: parked on an object, or stopped by memory.
abbrev pub HasEnded : List Object → (seen : ℕ → List Entry) → ℕ → (before now : List Item) → (is_stopped : Bool) → Driven → Type 0
HasEnded objects seen n before now is_stopped (driven.Parked p) = (is_stopped ≡ false) × IsDrivenTo objects seen n before now p
HasEnded objects seen n before now is_stopped driven.Stopped = is_stopped ≡ true

-- what holds where it was not stopped
abbrev pub IfParked : Driven → Type 0 → Type 0
IfParked (driven.Parked p) holds = holds
IfParked driven.Stopped holds = Unit {0}

-- it is this object where it was parked
abbrev pub IsParkedOn : Option ℕ → Driven → Type 0
IsParkedOn parked (driven.Parked p) = parked ≡ Some p
IsParkedOn parked driven.Stopped = ⊥
