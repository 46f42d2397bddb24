-- The exit of a call in front of a list of goals.
use Rattle.std.specs.Prelude.{◌≡◌, ℕ, ◌<◌, List, ◌∷◌, length}
use Rattle.cp_term.specs.declared.cell.Cell.{Cell}
use Rattle.cp_term.specs.declared.pred_name.PredName.{PredName}
use Rattle.cp_code.specs.Checks.{Check}
use Rattle.cp_code.specs.Code.{Code}
use Rattle.cp_code.specs.Tree.{Exit}
use Rattle.cp_run.specs.declared.run.Run.{Run}
use Rattle.cp_run.specs.Shown.{here_of, goals_shown, frames_of}

-- the exit was put in front of the goals
pub record IsExitPut (old new : Run) (p : PredName) (cs : List Check) (goal : List Cell) (rest n : ℕ) : Type 0 where
  pub place : n < length new.goals
  pub goals : goals_shown (here_of new) n ≡ Exit p cs goal ∷ goals_shown (here_of old) rest
  pub state : new ≡ record old { goals = new.goals }
  pub frames : (code : Code) → frames_of code new ≡ frames_of code old
