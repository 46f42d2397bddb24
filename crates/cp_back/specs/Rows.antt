-- Rows of the machine for the end of a findall's goal and for a ball that meets a catch.
use Rattle.std.specs.Prelude.{ℕ, ◌+◌, true, List}
use Rattle.cp_term.specs.declared.cell.Cell.{Cell}
use Rattle.cp_term.specs.Numbering.{fresh, next_variable}
use Rattle.cp_term.specs.Unification.{unify}
use Rattle.cp_goal.specs.Lists.{list_term}
use Rattle.cp_code.specs.Tree.{apart, variables_in}
use Rattle.cp_code.specs.Machine as machine
use Rattle.cp_run.specs.Gaining.{Row}

-- the goals behind are run where two terms unify
abbrev pub unify_row : (a b : List Cell) → Row
unify_row a b rest s next level = machine.runs_if (unify s a b) rest next level

-- the goals behind are run where the list of the copies unifies with the result
abbrev pub collect_row : (result : List Cell) (copies : List (List Cell)) → Row
collect_row result copies rest s next level = machine.runs_if (unify s result (list_term (apart next copies))) rest (next + variables_in copies) level

-- a ball meets a catch that may catch it
abbrev pub catch_row : (seer : List ℕ) (catcher recovery ball : List Cell) (catchers : List ℕ) → Row
catch_row m catcher recovery b ks rest s next level =
    machine.recovers true (unify s catcher (fresh next b)) m recovery rest (next + next_variable b) level b ks
