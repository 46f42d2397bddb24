-- What holds of a run between two moves.
use Rattle.std.specs.Prelude.{◌≡◌, ℕ, ◌<◌, ◌≤◌, Bool, true, false, nat_eq, List, [], ◌∷◌, length, take, get_or, reverse, map, is_some}
use Rattle.cp_term.specs.declared.cell.Cell.{Cell}
use Rattle.cp_term.specs.Preorder.{arguments}
use Rattle.cp_props.specs.Checks.{check_shown}
use Rattle.cp_props.specs.Arguments.{HaveArguments}
use Rattle.cp_heap.specs.State.{AreBoundWithin, HaveVariablesBelow}
use Rattle.cp_code.specs.Bodies.{body_of}
use Rattle.cp_code.specs.Code.{Code}
use Rattle.cp_code.specs.Machine as machine
use Rattle.cp_request.specs.declared.manner.Manner.{Manner}
use Rattle.cp_request.specs.declared.manner.Manner.TheVariants as manner
use Rattle.cp_run.specs.declared.goal.Goal.{Goal}
use Rattle.cp_run.specs.declared.goal.Goal.TheVariants as goal
use Rattle.cp_run.specs.declared.item.Item.{Item}
use Rattle.cp_run.specs.declared.item.Item.TheVariants as item
use Rattle.cp_run.specs.declared.moment.Moment.{Moment}
use Rattle.cp_run.specs.declared.frame.Frame.{Frame}
use Rattle.cp_run.specs.declared.frame.Frame.TheVariants as frame
use Rattle.cp_run.specs.declared.point.Point.{Point}
use Rattle.cp_run.specs.declared.point.Point.TheVariants as point
use Rattle.cp_run.specs.declared.run.Run.{Run}
use Rattle.cp_run.specs.Shown.{Here, back, here_of, item_shown, goals_shown, frames_shown, frames_of}

-- the term of a goal is there, and it is a goal
abbrev pub HasGoal : List (List Cell) → Goal → Type 0
HasGoal terms (goal.Term seer at) = (at.at < length terms) × (is_some (body_of seer (get_or terms at.at [])) ≡ true)
HasGoal terms goal.True = Unit {0}
HasGoal terms goal.Fail = Unit {0}

-- the term that a reply is for is there
abbrev pub HasManner : List (List Cell) → Manner → Type 0
HasManner terms (manner.Finds r) = r.at < length terms
HasManner terms manner.FindsOnce = Unit {0}
HasManner terms manner.Changes = Unit {0}
HasManner terms (manner.Posts r) = r.at < length terms

abbrev pub HasItem : List (List Cell) → Item → Type 0
HasItem terms (item.Goal g level) = HasGoal terms g
HasItem terms (item.CutNow level) = Unit {0}
HasItem terms (item.Leave catcher) = Unit {0}
HasItem terms (item.Copy seer x) = x.at < length terms
HasItem terms (item.AskFrom a place) = HasManner terms a.manner
HasItem terms (item.Exit p checks g) = (g.at < length terms) × HaveArguments (length (arguments (get_or terms g.at []))) (map check_shown checks)

-- the items stand for the same
abbrev pub IsSameItem : Item → Item → Type 0
IsSameItem new old = ((terms : List (List Cell)) → item_shown terms new ≡ item_shown terms old) × ((terms : List (List Cell)) → HasItem terms old → HasItem terms new)

abbrev pub HasItems : List (List Cell) → List Item → Type 0
HasItems terms [] = Unit {0}
HasItems terms (i ∷ items) = HasItem terms i × HasItems terms items

abbrev pub HasLists : List (List Cell) → List (List Item) → Type 0
HasLists terms [] = Unit {0}
HasLists terms (items ∷ lists) = HasItems terms items × HasLists terms lists

-- what there is can be taken back to this moment
pub record IsMoment (m : Moment) (h : Here) : Type 0 where
  pub terms : m.mark.terms ≤ length h.terms
  pub trail : m.mark.bindings ≤ length h.trail
  pub variables : m.mark.variables ≤ h.variables
  pub lists : m.lists ≤ length h.lists
  pub some : 0 < m.lists
  pub bound_within : AreBoundWithin m.mark.variables m.mark.terms (take m.mark.bindings h.trail)
  pub written_within : HaveVariablesBelow m.mark.variables (take m.mark.terms h.terms)
  pub items : HasLists (take m.mark.terms h.terms) (take m.lists h.lists)

-- the frames, the last one first
abbrev pub FramesStand : Here → List Frame → Type 0
FramesStand h [] = Unit {0}
FramesStand h (frame.Alternative m n level ∷ fs) = IsMoment m h × (n < m.lists) × FramesStand (back m h) fs
FramesStand h (frame.Clauses m pred from g rest level ∷ fs) = IsMoment m h × (g.at < m.mark.terms) × (rest < m.lists) × FramesStand (back m h) fs
FramesStand h (frame.Opened level ∷ fs) = FramesStand h fs
FramesStand h (frame.Catching m seer ball recovery rest level ∷ fs) = IsMoment m h × (ball.at < m.mark.terms) × (recovery.at < m.mark.terms) × (rest < m.lists) × FramesStand (back m h) fs
FramesStand h (frame.Gathering m outer result rest level ∷ fs) = IsMoment m h × (result.at < m.mark.terms) × (rest < m.lists) × FramesStand (back m h) fs
FramesStand h (frame.Answering m p a from g rest level ∷ fs) = IsMoment m h × (g.at < m.mark.terms) × (rest < m.lists) × FramesStand (back m h) fs

abbrev pub PointStands : Here → Point → Type 0
PointStands h (point.Runs n level) = n < length h.lists
PointStands h (point.Tries pred from g rest level) = (g.at < length h.terms) × (rest < length h.lists)
PointStands h (point.Gives p a from g rest level) = (g.at < length h.terms) × (rest < length h.lists)
PointStands h point.Fails = Unit {0}
PointStands h (point.Throws ball catchers) = Unit {0}
PointStands h (point.Asks a from rest level) = HasManner h.terms a.manner × (rest < length h.lists)
PointStands h (point.Writes bytes p rest level) = rest < length h.lists
PointStands h (point.Calls p g handed rest level) = (g.at < length h.terms) × (rest < length h.lists)
PointStands h (point.Answers answer) = Unit {0}
PointStands h point.Stops = Unit {0}

-- what does not depend on where it stands
pub record Holds (r : Run) : Type 0 where
  pub items : HasLists r.heap.terms r.goals
  pub frames : FramesStand (here_of r) (reverse r.frames.items)

pub record Stands (r : Run) : Type 0 where
  pub holds : Holds r
  pub point : PointStands (here_of r) r.point

-- there is more, and what there was is as it was
pub record Grows (old new : Here) : Type 0 where
  pub terms : take (length old.terms) new.terms ≡ old.terms
  pub trail : take (length old.trail) new.trail ≡ old.trail
  pub variables : old.variables ≤ new.variables
  pub lists : take (length old.lists) new.lists ≡ old.lists

-- an item was put in front of a list of goals
pub record IsPut (old new : Run) (i : Item) (rest n : ℕ) : Type 0 where
  pub place : n < length new.goals
  pub goals : goals_shown (here_of new) n ≡ item_shown old.heap.terms i ∷ goals_shown (here_of old) rest
  pub older : (k : ℕ) → k < length old.goals → (k < length new.goals) × (goals_shown (here_of new) k ≡ goals_shown (here_of old) k)
  pub state : new ≡ record old { goals = new.goals }
  pub frames : (code : Code) → frames_of code new ≡ frames_of code old

-- a frame was pushed that stands for this one
pub record IsPushed (old new : Run) (f : Code → machine.Frame) : Type 0 where
  pub state : new ≡ record old { frames = new.frames }
  pub frames : (code : Code) → frames_of code new ≡ f code ∷ frames_of code old

-- the frame is the mark of a level
abbrev pub is_opened : ℕ → Frame → Bool
is_opened level (frame.Alternative m n l) = false
is_opened level (frame.Clauses m pred from g rest l) = false
is_opened level (frame.Opened l) = nat_eq l level
is_opened level (frame.Catching m seer ball recovery rest l) = false
is_opened level (frame.Gathering m outer result rest l) = false
is_opened level (frame.Answering m p a from g rest l) = false

-- the frames down to the mark of a level, of these frames
abbrev pub AreDropped : ℕ → List Frame → List Frame → Type 0
AreDropped level old new =
    (h : Here) → FramesStand h old → FramesStand h new × ((code : Code) → frames_shown code h new ≡ machine.drop_to level (frames_shown code h old))
