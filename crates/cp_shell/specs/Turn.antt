-- What one turn of a worker does: its request is made and answered, the goal is handed the answer, and the remote calls that
-- are due then are made.
use Rattle.std.specs.Prelude.{◌≡◌, ◌⊎◌, ℕ, Bool, false, List, [], ◌∷◌, ◌++◌, Option, Some, None, cond, MatchOption, length, slice_get}
use Rattle.cp_call.specs.declared.call.Call.{Call}
use Rattle.cp_call.specs.declared.call.Reply.{Reply}
use Rattle.cp_call.specs.declared.call.Reply.TheVariants as reply
use Rattle.cp_call.specs.declared.call.Entry.{Entry}
use Rattle.cp_call.specs.declared.item.Item.{Item}
use Rattle.cp_call.specs.declared.item.Item.TheVariants as item
use Rattle.cp_call.specs.declared.item.Input.{Input}
use Rattle.cp_call.specs.declared.item.Next.{Next}
use Rattle.cp_call.specs.declared.item.Next.TheVariants as next
use Rattle.cp_call.specs.Life as life
use Rattle.cp_call.specs.Sound.{Object}
use Rattle.cp_shell.specs.declared.stage.Stage.{Stage}
use Rattle.cp_shell.specs.Stage.{IsAt}
use Rattle.cp_shell.specs.Asked.{StillWaits}
use Rattle.cp_shell.specs.Parked.{is_parking, parked_by, HasMade}

-- the object where an answer leaves the engine parked: with no answer it is parked still
abbrev pub parked_at : ℕ → Option Reply → Option ℕ
parked_at p None = Some p
parked_at p (Some r) = cond (is_parking r) (Some p) None

-- the worker's stage after an answer
abbrev pub after_answer : life.Rule → life.WorkerStage → Option Reply → life.WorkerStage
after_answer rule at None = at
after_answer rule at (Some r) = life.replied rule at r

-- The engine went on: it made an event that does not leave it parked, and then remote calls alone.
pub record HasGone (before now : List Item) : Type 0 where
  pub made : HasMade before now
  pub awake : parked_by made.event ≡ None

-- After this turn the engine is parked at object p, where it asks the same again: it was replied so, or it still waits there
-- and there was no event.
pub record IsParkedAt (rule : life.Rule) (objects : List Object) (seen : ℕ → List Entry) (n : ℕ) (before now : List Item) (p : ℕ) : Type 0 where
  pub call : Call
  pub pending : life.pending_request rule now ≡ next.Ask p call
  pub cause : (now ≡ before ++ item.Asked p call reply.Parked ∷ []) ⊎ ((now ≡ before) × StillWaits (slice_get objects p) (seen p) n call)

-- One event of worker n was made, or none where it is still parked. Its life goes on, and the shell keeps the stage after
-- it. `parked` is the object where it is parked now.
pub record HasTurned (rule : life.Rule) (objects : List Object) (continuation : List Input → Next) (failed : Bool) (before now : List Item) (seen : ℕ → List Entry) (n : ℕ) (stage : Stage) (parked : Option ℕ) : Type 0 where
  pub event : MatchOption parked (HasGone before now) (IsParkedAt rule objects seen n before now)
  pub at : IsAt rule (length objects) continuation failed (life.last_stage rule life.Idle now) stage
  pub life : life.IsWorkersLife rule before → life.IsWorkersLife rule now
