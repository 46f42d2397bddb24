-- A run whose heap gains terms, and nothing else.
use Rattle.std.specs.Prelude.{◌≡◌, ℕ, ◌<◌, List, [], length, get_or}
use Rattle.cp_term.specs.declared.cell.Cell.{Cell}
use Rattle.cp_term.specs.Substitution.{Substitution}
use Rattle.cp_lists.specs.Growing.{GainsTerms}
use Rattle.cp_code.specs.Code.{Code}
use Rattle.cp_code.specs.Requests.{handed_out}
use Rattle.cp_code.specs.Tree as tree
use Rattle.cp_code.specs.Machine as machine
use Rattle.cp_run.specs.declared.run.Run.{Run}
use Rattle.cp_run.specs.Shown.{here_of, instance_in, moved}
use Rattle.cp_run.specs.Entering.{IsExtended}

-- a row of the machine, by what stands behind it
abbrev pub Row : Type 0
Row = List tree.Item → Substitution → ℕ → ℕ → machine.Move

-- terms were made, and every row makes of the run what it made before
pub record IsGained (old new : Run) : Type 0 where
  pub heap : GainsTerms old.heap new.heap
  pub extended : IsExtended old new
  pub lists : new.goals ≡ old.goals
  pub there : (at : ℕ) → at < length old.heap.terms → at < length new.heap.terms
  pub terms : (at : ℕ) → at < length old.heap.terms → get_or new.heap.terms at [] ≡ get_or old.heap.terms at []
  pub instances : (at : ℕ) → at < length old.heap.terms → instance_in (here_of new) at ≡ instance_in (here_of old) at
  pub moved : (code : Code) (rest level : ℕ) (row : Row) → rest < length old.goals → moved code new rest level row ≡ moved code old rest level row

-- a ball is thrown
abbrev pub throw_row : List Cell → Row
throw_row ball rest s next level = machine.to (machine.Throws ball (tree.catchers rest))

-- an error of this kind is raised in a context
abbrev pub raise_row : (kind error_context : List Cell) → Row
raise_row kind ctx rest s next level = machine.raises kind ctx rest

-- a term is thrown, or an error where it is too large
abbrev pub throw_copy_row : (term error_context : List Cell) → Row
throw_copy_row t ctx rest s next level = machine.throws_copy (handed_out t) ctx rest
