-- What becomes of a goal that is next.
use Rattle.std.specs.Prelude.{◌≡◌, ℕ, ℤ, suc, ◌<◌, true, false, Option, Some, None, List, [], ◌∷◌, length, is_some}
use Rattle.cp_term.specs.declared.cell.Cell.{Cell}
use Rattle.cp_code.specs.Bodies.{Body, Both, Cut, True, Fail, Either, Choose, CallOf, CatchOf, ThrowOf, FindAll, Plain}
use Rattle.cp_code.specs.Code.{Code}
use Rattle.cp_code.specs.Programs.{or_fail}
use Rattle.cp_term.specs.Substitution.{Substitution}
use Rattle.cp_code.specs.Machine.{Move, body_move, item_move}
use Rattle.cp_code.specs.Requests.{Asking}
use Rattle.cp_code.specs.Tree as tree
use Rattle.cp_run.specs.declared.goal.Goal.{Goal}
use Rattle.cp_run.specs.declared.item.Item.{Item}
use Rattle.cp_run.specs.declared.item.Item.TheVariants as item
use Rattle.cp_run.specs.declared.next.Next.{Next}
use Rattle.cp_run.specs.declared.next.Next.TheVariants as next
use Rattle.cp_run.specs.declared.run.Run.{Run}
use Rattle.cp_control.specs.declared.seen.Seen.{Seen}
use Rattle.cp_run.specs.declared.started.Started.{Started}
use Rattle.cp_run.specs.declared.started.Started.TheVariants as started
use Rattle.cp_control.specs.Control.{body_read, HasParts, is_of_parts}
use Rattle.cp_run.specs.Shown.{here_of, goal_shown, item_shown, goals_shown, shown, moved}
use Rattle.cp_run.specs.Stands.{HasManner, HasItem, Stands}

abbrev pub IsNotBoth : Body → Type 0
IsNotBoth (Both a b) = ⊥
IsNotBoth Cut = Unit {0}
IsNotBoth True = Unit {0}
IsNotBoth Fail = Unit {0}
IsNotBoth (Either a b) = Unit {0}
IsNotBoth (Choose c t e) = Unit {0}
IsNotBoth (CallOf m g extra) = Unit {0}
IsNotBoth (CatchOf m g ball recovery) = Unit {0}
IsNotBoth (ThrowOf m ball) = Unit {0}
IsNotBoth (FindAll m x g result) = Unit {0}
IsNotBoth (Plain m g) = Unit {0}

-- a goal was charged and is still to be run, as it was read
pub record IsDue (old new : Run) (b : Body) (s : Seen) : Type 0 where
  pub charged : old.units ≡ suc new.units
  pub state : new ≡ record old { units = new.units }
  pub goal : b ≡ or_fail (body_read old.heap.terms s.at.at s.control s.seer)
  pub good : is_some (body_read old.heap.terms s.at.at s.control s.seer) ≡ true
  pub place : s.at.at < length old.heap.terms
  pub parts : HasParts s.at.at s.control
  pub alone : IsNotBoth b
  pub other : is_of_parts s.control ≡ false

abbrev pub IsStarted : Run → Run → Body → (own rest level : ℕ) → Started → Type 0
IsStarted old new b own rest level started.Moved = ((code : Code) → shown code new ≡ moved code old rest level (body_move code b own)) × Stands new
IsStarted old new b own rest level (started.Due s) = IsDue old new b s

-- the first item of a list of goals is there, and the list behind it
abbrev pub IsFirst : Run → (goals : ℕ) → Option (Item × ℕ) → Type 0
IsFirst r goals None = goals_shown (here_of r) goals ≡ []
IsFirst r goals (Some p) = (goals_shown (here_of r) goals ≡ item_shown r.heap.terms p.0 ∷ goals_shown (here_of r) p.1) × (p.1 < length r.goals) × HasItem r.heap.terms p.0

-- what became of a goal in front of a list of goals
abbrev pub IsGoalNext : Run → Run → Goal → (own rest level : ℕ) → Next → Type 0
IsGoalNext old new g own rest level next.Moved = ((code : Code) → shown code new ≡ moved code old rest level (body_move code (goal_shown old.heap.terms g) own)) × Stands new
IsGoalNext old new g own rest level (next.Due s own' rest') = IsDue old new (goal_shown old.heap.terms g) s × (own' ≡ own) × (rest' ≡ rest)
IsGoalNext old new g own rest level next.Answer = ⊥
IsGoalNext old new g own rest level (next.Copy seer x behind) = ⊥
IsGoalNext old new g own rest level (next.Ask a place behind) = ⊥
IsGoalNext old new g own rest level (next.Exit p checks call behind) = ⊥

-- a goal in front of these goals was charged and is still to be run
pub record IsDueIn (old new : Run) (goals own rest : ℕ) (s : Seen) : Type 0 where
  pub first : goals_shown (here_of old) goals ≡ tree.Goal (or_fail (body_read old.heap.terms s.at.at s.control s.seer)) own ∷ goals_shown (here_of old) rest
  pub behind : rest < length old.goals
  pub due : IsDue old new (or_fail (body_read old.heap.terms s.at.at s.control s.seer)) s

abbrev pub IsNextOf : Run → Run → (goals level : ℕ) → Next → Type 0
IsNextOf old new goals level next.Moved = ((code : Code) (goal : List Cell) → shown code new ≡ moved code old goals level (item_move code goal)) × Stands new
IsNextOf old new goals level (next.Due s own rest) = IsDueIn old new goals own rest s
IsNextOf old new goals level next.Answer = (goals_shown (here_of old) goals ≡ []) × (new ≡ old)
IsNextOf old new goals level (next.Copy seer x rest) =
    (goals_shown (here_of old) goals ≡ item_shown old.heap.terms (item.Copy seer x) ∷ goals_shown (here_of old) rest) × (rest < length old.goals) × (x.at < length old.heap.terms) × (new ≡ old)
IsNextOf old new goals level (next.Ask a place rest) =
    (goals_shown (here_of old) goals ≡ item_shown old.heap.terms (item.AskFrom a place) ∷ goals_shown (here_of old) rest) × (rest < length old.goals) × HasManner old.heap.terms a.manner × (new ≡ old)
IsNextOf old new goals level (next.Exit p checks g rest) =
    (goals_shown (here_of old) goals ≡ item_shown old.heap.terms (item.Exit p checks g) ∷ goals_shown (here_of old) rest) × (rest < length old.goals) × HasItem old.heap.terms (item.Exit p checks g) × (new ≡ old)

-- a question that is asked again, in front of these goals
abbrev pub again_row : Code → (goal : List Cell) → Asking → ℤ → List tree.Item → Substitution → ℕ → ℕ → Move
again_row code goal a place rest s next level = item_move code goal (tree.AskFrom a place ∷ rest) s next level
