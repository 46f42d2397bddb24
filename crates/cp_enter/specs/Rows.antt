-- Rows of the machine for goals that are made at run time.
use Rattle.std.specs.Prelude.{ℕ, List, ◌∷◌, Option, Result}
use Rattle.cp_term.specs.declared.cell.Cell.{Cell}
use Rattle.cp_term.specs.Substitution.{apply}
use Rattle.cp_code.specs.Bodies.{Body}
use Rattle.cp_code.specs.Requests.{handed_out}
use Rattle.cp_code.specs.Tree as tree
use Rattle.cp_code.specs.Machine as machine
use Rattle.cp_run.specs.Gaining.{Row}

-- a term is run as a goal, with these arguments behind its own
abbrev pub enter_row : (seer : List ℕ) (goal : List Cell) (extra : List (List Cell)) (error_context : List Cell) → Row
enter_row m g extra ctx rest s next level = machine.enters m g extra ctx rest s next level

-- a term that has the arguments behind its own already is run as a goal; or there is none
abbrev pub goal_row : (seer : List ℕ) (goal : Result (List Cell) (List Cell)) (error_context : List Cell) → Row
goal_row m g ctx rest s next level = machine.enters_goal m g ctx rest s next level

-- what a term is as a body is run, if it is one
abbrev pub body_row : Option Body → (goal error_context : List Cell) → Row
body_row b g ctx rest s next level = machine.enters_body b g ctx rest s next level

-- a body is run at a level that is opened
abbrev pub opened_row : Body → (inner : ℕ) → Row
opened_row b inner rest s next level units copies fs = machine.to (machine.Runs (tree.Goal b inner ∷ rest) s next inner) units copies (machine.Mark inner ∷ fs)

-- a findall takes a copy of its template
abbrev pub copy_row : (template error_context : List Cell) → Row
copy_row x ctx rest s next level = machine.copies_move (handed_out (apply s x)) ctx rest
