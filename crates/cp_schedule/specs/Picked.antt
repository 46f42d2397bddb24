-- How a run by a list of picks ends, each of which names the worker whose turn it is by its number from 1.
use Rattle.std.specs.Prelude.{ℕ, ◌≡◌, ◌≢◌, true, false, List, [], ◌∷◌, Option, Some, None, slice_get, take}
use Rattle.cp_call.specs.declared.outcome.Outcome.{Outcome}
use Rattle.cp_call.specs.declared.outcome.OutEntry.{OutEntry}
use Rattle.cp_call.specs.Progress.{beginning}
use Rattle.cp_call.specs.Sound.{Setup}
use Rattle.cp_shell.specs.Shell.{ShellView}
use Rattle.cp_hall.specs.Hall.{HallObject}
use Rattle.cp_schedule.specs.Ended.{record_ended}
use Rattle.cp_schedule.specs.declared.by_picks.Course.{Course}
use Rattle.cp_schedule.specs.declared.by_picks.Course.TheVariants as course
use Rattle.cp_schedule.specs.declared.end.Picked.{Picked}
use Rattle.cp_schedule.specs.declared.end.Picked.TheVariants as picked
use Rattle.cp_schedule.specs.Turns.{RunsBy, all_at_rest, awake_places, names_awake}

-- The first pick that names no worker, or one that is parked, stands at this place from 0: those before it have led here.
pub record StopsAt (s : Setup) (before : Outcome) (picks : List ℕ) (place : ℕ) (now : Outcome) : Type 0 where
  pub pick : ℕ
  pub there : slice_get picks place ≡ Some pick
  pub runs : RunsBy s before (take place picks) now
  pub bad : names_awake now pick ≡ false

-- each pick has named a worker that is not parked, or one has not, at this place
abbrev pub HasTaken : Setup → (before : Outcome) → List ℕ → (bad : Option ℕ) → (now : Outcome) → Type 0
HasTaken s before picks None now = RunsBy s before picks now
HasTaken s before picks (Some place) now = StopsAt s before picks place now

-- where the picks have led to, and whether all workers are parked then
abbrev pub HasFollowed : Setup → (before : Outcome) → List ℕ → Course → (now : Outcome) → Type 0
HasFollowed s before picks course.Rest now = RunsBy s before picks now × (awake_places now ≡ [])
HasFollowed s before picks course.Awake now = RunsBy s before picks now × (awake_places now ≢ [])
HasFollowed s before picks (course.BadPick place) now = StopsAt s before picks place now

-- The run by these picks of so many workers, where each goal has this step budget, came to this moment, and ended so.
abbrev pub IsRunOfPicks : Setup → (picks : List ℕ) → (steps workers : ℕ) → Picked → (last : Outcome) → Type 0
IsRunOfPicks s picks steps workers (picked.Ended end) last = RunsBy s (beginning s steps workers) picks last × (awake_places last ≡ []) × (end ≡ all_at_rest last)
IsRunOfPicks s picks steps workers picked.Awake last = RunsBy s (beginning s steps workers) picks last × (awake_places last ≢ [])
IsRunOfPicks s picks steps workers (picked.BadPick place) last = StopsAt s (beginning s steps workers) picks place last
IsRunOfPicks s picks steps workers picked.NoMemory last = Unit {0}

-- the end is this record, unless memory stopped it
abbrev pub IsEndOf : {M : Type 0} → (steps : ℕ) → List (ShellView M) → List HallObject → List OutEntry → Picked → Type 0
IsEndOf steps shells hall port (picked.Ended end) = end ≡ record_ended steps shells hall port
IsEndOf steps shells hall port picked.Awake = ⊥
IsEndOf steps shells hall port (picked.BadPick place) = ⊥
IsEndOf steps shells hall port picked.NoMemory = Unit {0}

-- what holds of the outcome where the run has ended
abbrev pub IfEnded : Picked → (Outcome → Type 0) → Type 0
IfEnded (picked.Ended end) holds = holds end
IfEnded picked.Awake holds = Unit {0}
IfEnded (picked.BadPick place) holds = Unit {0}
IfEnded picked.NoMemory holds = Unit {0}
