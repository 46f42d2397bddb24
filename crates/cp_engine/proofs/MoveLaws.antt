-- Moves of a run, by what was first.
use Rattle.std.proofs.Common.{◌≡◌, ℕ, List, [], ◌∷◌, refl, sym, ◌∙◌, ap}
use Rattle.cp_term.specs.declared.cell.Cell.{Cell}
use Rattle.cp_code.specs.Code.{Code}
use Rattle.cp_code.specs.Programs.{or_fail}
use Rattle.cp_code.specs.Tree as tree
use Rattle.cp_code.specs.Machine as machine
use Rattle.cp_code.specs.Machine.{goal_move, item_move, point_move}
use Rattle.cp_control.specs.declared.seen.Seen.{Seen}
use Rattle.cp_control.specs.Control.{body_read}
use Rattle.cp_run.specs.declared.point.Point.{Point}
use Rattle.cp_run.specs.declared.run.Run.{Run}
use Rattle.cp_run.specs.Gaining.{Row}
use Rattle.cp_run.specs.Shown.{here_of, bound, goals_shown, frames_of, point_shown, shown, moved}
use Rattle.cp_run.specs.Starting.{IsDueIn}
use Rattle.cp_run.proofs.StartLaws.{charged-moved}
use Rattle.cp_engine.specs.Walking.{answer_row}

-- the row of an item in front of the goals behind it
abbrev pub item_row : Code → (g : List Cell) → tree.Item → Row
item_row code g i rest s next level = item_move code g (i ∷ rest) s next level

pub first-moved : (code : Code) (g : List Cell) (r : Run) (goals rest level : ℕ) (i : tree.Item) → goals_shown (here_of r) goals ≡ i ∷ goals_shown (here_of r) rest
    → moved code r rest level (item_row code g i) ≡ moved code r goals level (item_move code g)
first-moved code g r goals rest level i e =
    sym (ap (λ gs. item_move code g gs (bound (here_of r)) r.heap.variables level r.units r.copies (frames_of code r)) e)

pub none-moved : (code : Code) (g : List Cell) (r : Run) (goals level : ℕ) → goals_shown (here_of r) goals ≡ []
    → moved code r goals level (answer_row code g) ≡ moved code r goals level (item_move code g)
none-moved code g r goals level e =
    sym (ap (λ gs. item_move code g gs (bound (here_of r)) r.heap.variables level r.units r.copies (frames_of code r)) e)

pub due-next : (code : Code) (g : List Cell) (old mid new : Run) (goals own rest level : ℕ) (s : Seen) → IsDueIn old mid goals own rest s
    → shown code new ≡ moved code mid rest level (goal_move code (or_fail (body_read mid.heap.terms s.at.at s.control s.seer)) own)
    → shown code new ≡ moved code old goals level (item_move code g)
due-next code g old mid new goals own rest level s d ran =
    let b = or_fail (body_read old.heap.terms s.at.at s.control s.seer) in
    ran
    ∙ ap (λ (r : Run). moved code mid rest level (goal_move code (or_fail (body_read r.heap.terms s.at.at s.control s.seer)) own)) d.due.state
    ∙ charged-moved code old mid b b own rest level d.due.alone refl d.due.charged d.due.state
    ∙ first-moved code g old goals rest level (tree.Goal b own) d.first

-- the point of a run is this one
pub point-moved : (code : Code) (g : List Cell) (r : Run) (p : Point) → r.point ≡ p
    → machine.move code g (shown code r) ≡ point_move code g (point_shown code (here_of r) p) r.units r.copies (frames_of code r)
point-moved code g r p e = ap (λ x. point_move code g (point_shown code (here_of r) x) r.units r.copies (frames_of code r)) e
