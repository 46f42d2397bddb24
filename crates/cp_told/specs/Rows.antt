-- What follows a reply, over the terms of a run.
use Rattle.std.specs.Prelude.{ℕ, ◌<◌, List, [], ◌∷◌, length, get_or, reverse}
use Rattle.cp_term.specs.declared.cell.Cell.{Cell}
use Rattle.cp_term.specs.Unification.{unify}
use Rattle.cp_call.specs.declared.item.Input.{Input}
use Rattle.cp_code.specs.Code.{Code}
use Rattle.cp_code.specs.Requests as requests
use Rattle.cp_code.specs.Requests.{full_kind}
use Rattle.cp_code.specs.Machine as machine
use Rattle.cp_request.specs.declared.follows.Follows.{Follows}
use Rattle.cp_request.specs.declared.follows.Follows.TheVariants as follows
use Rattle.cp_run.specs.declared.moment.Moment.{Moment}
use Rattle.cp_run.specs.declared.point.Point.{Point}
use Rattle.cp_run.specs.declared.run.Run.{Run}
use Rattle.cp_run.specs.Shown.{back, bound, here_of, goals_shown, point_shown, frames_shown, frames_of}
use Rattle.cp_run.specs.Entering.{alternative_frame}
use Rattle.cp_run.specs.Gaining.{Row}

-- the terms of the goal stand as they were to be asked for; what was looked for once is the copy that was handed out
abbrev pub follows_shown : List (List Cell) → (copy : List Cell) → Follows → requests.Follows
follows_shown terms copy follows.Again = requests.Again
follows_shown terms copy (follows.Facts place pattern fact) = requests.Facts place (get_or terms pattern.at []) fact
follows_shown terms copy (follows.Fact fact) = requests.Fact copy fact
follows_shown terms copy (follows.Number number place) = requests.Number (get_or terms number.at []) place
follows_shown terms copy follows.Rest = requests.Rest
follows_shown terms copy follows.Nothing = requests.Nothing
follows_shown terms copy (follows.Raises by) = requests.Raises (full_kind by)

-- the term of the goal is there
abbrev pub HasFollows : List (List Cell) → Follows → Type 0
HasFollows terms follows.Again = Unit {0}
HasFollows terms (follows.Facts place pattern fact) = pattern.at < length terms
HasFollows terms (follows.Fact fact) = Unit {0}
HasFollows terms (follows.Number number place) = number.at < length terms
HasFollows terms follows.Rest = Unit {0}
HasFollows terms follows.Nothing = Unit {0}
HasFollows terms (follows.Raises by) = Unit {0}

-- what an input makes of a run that has left this point
abbrev pub told_at : Code → Run → Point → Input → machine.State
told_at code r p i = machine.point_told (point_shown code (here_of r) p) i r.units r.copies (frames_of code r)

-- the goals behind, where two terms unify
abbrev pub one_row : (a b : List Cell) → Row
one_row a b rest s next level = machine.runs_if (unify s a b) rest next level

-- a list of goals is run over other goals, which are to be run as things were at a moment
abbrev pub with_alternative : Code → Run → Moment → (goals rest level : ℕ) → machine.State
with_alternative code r m goals rest level = record {
  point = machine.Runs (goals_shown (here_of r) rest) (bound (here_of r)) r.heap.variables level;
  units = r.units;
  copies = r.copies;
  frames = alternative_frame (here_of r) m goals level ∷ frames_shown code (back m (here_of r)) (reverse r.frames.items);
}
