-- What the state of a run stands for: a state of the machine that walks a tree.
use Rattle.std.specs.Prelude.{ℕ, suc, List, [], ◌∷◌, map, take, drop, get_or, reverse, Option, Some, None, slice_get, codes}
use Rattle.cp_term.specs.declared.cell.Cell.{Cell}
use Rattle.cp_term.specs.Substitution.{Substitution, apply}
use Rattle.cp_goal.specs.Builtins.{context}
use Rattle.cp_heap.specs.declared.bound.Bound.{Bound}
use Rattle.cp_heap.specs.State.{State, bindings}
use Rattle.cp_code.specs.Bodies as body
use Rattle.cp_code.specs.Bodies.{Body, body_of}
use Rattle.cp_code.specs.Code.{Code, Clause, Pred}
use Rattle.cp_code.specs.Programs.{or_fail}
use Rattle.cp_code.specs.Tree as tree
use Rattle.cp_code.specs.Tree.{rules_of_kind}
use Rattle.cp_code.specs.Machine as machine
use Rattle.cp_code.specs.Requests as requests
use Rattle.cp_code.specs.Requests.{full_name}
use Rattle.cp_props.specs.Checks.{check_shown}
use Rattle.cp_request.specs.declared.asking.Asking.{Asking}
use Rattle.cp_request.specs.declared.manner.Manner.{Manner}
use Rattle.cp_request.specs.declared.manner.Manner.TheVariants as manner
use Rattle.cp_request.specs.Asked as asked
use Rattle.cp_request.specs.Told.{remote_shown}
use Rattle.cp_run.specs.declared.goal.Goal.{Goal}
use Rattle.cp_run.specs.declared.goal.Goal.TheVariants as goal
use Rattle.cp_run.specs.declared.item.Item.{Item}
use Rattle.cp_run.specs.declared.item.Item.TheVariants as item
use Rattle.cp_run.specs.declared.moment.Moment.{Moment}
use Rattle.cp_run.specs.declared.frame.Frame.{Frame}
use Rattle.cp_run.specs.declared.frame.Frame.TheVariants as frame
use Rattle.cp_run.specs.declared.point.Point.{Point}
use Rattle.cp_run.specs.declared.point.Point.TheVariants as point
use Rattle.cp_run.specs.declared.run.Run.{Run}

-- What terms, bindings, variables and lists of goals there are. The names of a heap only grow, and nothing here is by them.
pub record Here : Type 0 where
  pub terms : List (List Cell)
  pub trail : List Bound
  pub variables : ℕ
  pub lists : List (List Item)

abbrev pub here : State → List (List Item) → Here
here h lists = record { terms = h.terms; trail = h.trail; variables = h.variables; lists = lists }

-- what there was at a moment
abbrev pub back : Moment → Here → Here
back m h = record {
  terms = take m.mark.terms h.terms;
  trail = take m.mark.bindings h.trail;
  variables = m.mark.variables;
  lists = take m.lists h.lists;
}

abbrev pub bound : Here → Substitution
bound h = bindings h.terms h.trail

abbrev pub instance_in : Here → ℕ → List Cell
instance_in h at = apply (bound h) (get_or h.terms at [])

-- ---- goals

-- a term that is no goal does not come
abbrev pub goal_shown : List (List Cell) → Goal → Body
goal_shown terms (goal.Term seer at) = or_fail (body_of seer (get_or terms at.at []))
goal_shown terms goal.True = body.True
goal_shown terms goal.Fail = body.Fail

-- what is asked, where the terms of the goal stand as they are to be asked for
abbrev pub manner_shown : List (List Cell) → (copy : List Cell) → Manner → requests.Manner
manner_shown terms copy (manner.Finds r) = requests.Finds (get_or terms r.at [])
manner_shown terms copy manner.FindsOnce = requests.FindsOnce copy
manner_shown terms copy manner.Changes = requests.Changes
manner_shown terms copy (manner.Posts r) = requests.Posts (get_or terms r.at [])

abbrev pub asking_shown : List (List Cell) → Asking → requests.Asking
asking_shown terms a = record {
  object = a.object;
  call = requests.call_of (asked.goal_shown a.goal) a.copy;
  manner = manner_shown terms a.copy a.manner;
  error_context = full_name a.context;
}

abbrev pub item_shown : List (List Cell) → Item → tree.Item
item_shown terms (item.Goal g level) = tree.Goal (goal_shown terms g) level
item_shown terms (item.CutNow level) = tree.CutNow level
item_shown terms (item.Leave catcher) = tree.Leave catcher
item_shown terms (item.Copy seer x) = tree.Copy (get_or terms x.at []) (context seer (codes "findall") 3)
item_shown terms (item.AskFrom a place) = tree.AskFrom (asking_shown terms a) place
item_shown terms (item.Exit p checks g) = tree.Exit p (map check_shown checks) (get_or terms g.at [])

abbrev pub goals_shown : Here → ℕ → List tree.Item
goals_shown h n = map (item_shown h.terms) (get_or h.lists n [])

-- ---- frames

abbrev pub rules_of_pred : Option Pred → List Clause
rules_of_pred None = []
rules_of_pred (Some p) = rules_of_kind p.kind

-- the clauses of a predicate from this one on
abbrev pub rules_from : Code → (pred from : ℕ) → List Clause
rules_from code pred from = drop from (rules_of_pred (slice_get code.preds pred))

-- The frames, the last one first. What a frame speaks of is what there was at its moment.
abbrev pub frames_shown : Code → Here → List Frame → List machine.Frame
frames_shown code h [] = []
frames_shown code h (frame.Alternative m n level ∷ fs) =
    machine.Alternative (goals_shown (back m h) n) (bound (back m h)) m.mark.variables level ∷ frames_shown code (back m h) fs
frames_shown code h (frame.Clauses m pred from g rest level ∷ fs) =
    machine.Clauses (rules_from code pred from) (instance_in (back m h) g.at) (goals_shown (back m h) rest) (bound (back m h)) m.mark.variables level ∷ frames_shown code (back m h) fs
frames_shown code h (frame.Opened level ∷ fs) = machine.Mark level ∷ frames_shown code h fs
frames_shown code h (frame.Catching m seer ball recovery rest level ∷ fs) =
    machine.Catching (suc level) seer (get_or (back m h).terms ball.at []) (get_or (back m h).terms recovery.at []) (goals_shown (back m h) rest) (bound (back m h)) m.mark.variables level ∷ frames_shown code (back m h) fs
frames_shown code h (frame.Gathering m outer result rest level ∷ fs) =
    machine.Gathering outer (get_or (back m h).terms result.at []) (goals_shown (back m h) rest) (bound (back m h)) m.mark.variables level ∷ frames_shown code (back m h) fs
frames_shown code h (frame.Answering m p a from g rest level ∷ fs) =
    machine.Answering (drop from a.answers) (remote_shown p a.behind) (instance_in (back m h) g.at) (full_name p) (goals_shown (back m h) rest) (bound (back m h)) m.mark.variables level ∷ frames_shown code (back m h) fs

-- ---- the whole

abbrev pub point_shown : Code → Here → Point → machine.Point
point_shown code h (point.Runs n level) = machine.Runs (goals_shown h n) (bound h) h.variables level
point_shown code h (point.Tries pred from g rest level) =
    machine.Tries (rules_from code pred from) (instance_in h g.at) (goals_shown h rest) (bound h) h.variables level
point_shown code h (point.Gives p a from g rest level) =
    machine.Gives (drop from a.answers) (remote_shown p a.behind) (instance_in h g.at) (full_name p) (goals_shown h rest) (bound h) h.variables level
point_shown code h point.Fails = machine.Fails
point_shown code h (point.Throws ball catchers) = machine.Throws ball catchers
point_shown code h (point.Asks a from rest level) = machine.Asks (asking_shown h.terms a) from (goals_shown h rest) (bound h) h.variables level
point_shown code h (point.Writes bytes p rest level) = machine.Writes bytes (full_name p) (goals_shown h rest) (bound h) h.variables level
point_shown code h (point.Calls p g handed rest level) = machine.Calls p (instance_in h g.at) handed (goals_shown h rest) (bound h) h.variables level
point_shown code h (point.Answers answer) = machine.Answers answer
point_shown code h point.Stops = machine.Stops

abbrev pub here_of : Run → Here
here_of r = here r.heap r.goals

abbrev pub frames_of : Code → Run → List machine.Frame
frames_of code r = frames_shown code (here_of r) (reverse r.frames.items)

abbrev pub shown : Code → Run → machine.State
shown code r = record { point = point_shown code (here_of r) r.point; units = r.units; copies = r.copies; frames = frames_of code r }

-- what a row makes of a run, with a list of goals behind it and the last level that was opened
abbrev pub moved : Code → Run → (rest level : ℕ) → (List tree.Item → Substitution → ℕ → ℕ → machine.Move) → machine.State
moved code r rest level row = row (goals_shown (here_of r) rest) (bound (here_of r)) r.heap.variables level r.units r.copies (frames_of code r)

-- the frames of a choice, with its other goals
abbrev pub choice_frames : Code → Run → (others outer inner : ℕ) → List machine.Frame
choice_frames code r others outer inner =
    machine.Mark inner ∷ machine.Alternative (goals_shown (here_of r) others) (bound (here_of r)) r.heap.variables outer ∷ machine.Mark outer ∷ frames_of code r

-- a condition that is run over other goals, in front of a cut to the outer level and the goals behind it
abbrev pub entered : Code → Run → Body → (others behind outer inner : ℕ) → machine.State
entered code r condition others behind outer inner = record {
  point = machine.Runs (tree.Goal condition inner ∷ tree.CutNow outer ∷ goals_shown (here_of r) behind) (bound (here_of r)) r.heap.variables inner;
  units = r.units;
  copies = r.copies;
  frames = choice_frames code r others outer inner;
}
