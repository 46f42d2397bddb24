-- A run that is taken back to a moment.
use Rattle.std.specs.Prelude.{◌≡◌, List, ◌∷◌, reverse}
use Rattle.cp_code.specs.Code.{Code}
use Rattle.cp_code.specs.Machine as machine
use Rattle.cp_run.specs.declared.frame.Frame.{Frame}
use Rattle.cp_run.specs.declared.frame.Frame.TheVariants as frame
use Rattle.cp_run.specs.declared.moment.Moment.{Moment}
use Rattle.cp_run.specs.declared.run.Run.{Run}
use Rattle.cp_run.specs.Shown.{back, here_of, frames_shown, frames_of}
use Rattle.cp_run.specs.Stands.{HasLists, FramesStand, Holds}

-- the heap and the goals were taken back to a moment, and nothing else changed
pub record IsTakenBack (old new : Run) (m : Moment) : Type 0 where
  pub here : here_of new ≡ back m (here_of old)
  pub holds : Holds new
  pub state : new ≡ record old { heap = new.heap; goals = new.goals }
  pub frames : (code : Code) → frames_of code new ≡ frames_shown code (back m (here_of old)) (reverse old.frames.items)

-- a run that holds together with a frame that was taken off
pub record HoldsUnder (r : Run) (f : Frame) : Type 0 where
  pub items : HasLists r.heap.terms r.goals
  pub frames : FramesStand (here_of r) (f ∷ reverse r.frames.items)

-- the frames, with one that was taken off
abbrev pub frames_under : Code → Run → Frame → List machine.Frame
frames_under code r f = frames_shown code (here_of r) (f ∷ reverse r.frames.items)

-- a ball passes the frame, and nothing else changes
abbrev pub IsPassedBy : Frame → Type 0
IsPassedBy (frame.Alternative m n level) = Unit {0}
IsPassedBy (frame.Clauses m pred from g rest level) = Unit {0}
IsPassedBy (frame.Opened level) = Unit {0}
IsPassedBy (frame.Catching m seer ball recovery rest level) = ⊥
IsPassedBy (frame.Gathering m outer result rest level) = ⊥
IsPassedBy (frame.Answering m p a from g rest level) = Unit {0}
