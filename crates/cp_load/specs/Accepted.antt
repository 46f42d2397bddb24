-- What the files of a program come to: for each tree of files just one of a program, the first refusal, and a file that is missing or
-- too big. The causes in their order: each file when it is loaded, by itself and then by its name and number; the files
-- together, one after another; their regular types; their assertions; and last, that there is no `main/0`.
use Rattle.std.specs.Prelude.{◌≡◌, ℕ, Bool, true, not, ◌&&◌, cond, List, [], ◌∷◌, Option, Some, None, codes}
use Rattle.cp_io.specs.Content.{Tree}
use Rattle.cp_code.specs.declared.program.Program.{Program}
use Rattle.cp_declaration.specs.declared.indicator.Indicator.{Indicator}
use Rattle.cp_module.specs.declared.why.Why.TheVariants as why
use Rattle.cp_module.specs.Parts.{Part}
use Rattle.cp_module.specs.Causes.{is_defined}
use Rattle.cp_link.specs.Refusals.{Fault, refused}
use Rattle.cp_link.specs.Linked.{linked}
use Rattle.cp_load.specs.Prelude.{prelude}
use Rattle.cp_load.specs.Gathering as gathering
use Rattle.cp_load.specs.Gathering.{Gathered, gathered}
use Rattle.cp_load.specs.Types.{type_fault, typed}
use Rattle.cp_load.specs.Assertions.{assertion_fault, AreAssertions}

-- the program of these files but for its assertions
abbrev pub program_of : List Part → Program
program_of parts = record (linked parts prelude) { types = typed (linked parts prelude).types parts }

abbrev pub main : Indicator
main = record { name = codes "main"; arity = 0 }

abbrev pub lacks_main : List Part → Bool
lacks_main [] = true
lacks_main (p ∷ parts) = not (is_defined p.clauses main)

abbrev pub main_fault : (needs_main : Bool) → List Part → Option Fault
main_fault needs_main [] = None
main_fault needs_main (p ∷ parts) =
    cond (needs_main && lacks_main (p ∷ parts)) (Some (record { file = p.file; cause = record { line = 1; why = why.NoMain } })) None

abbrev pub or_else : Option Fault → Option Fault → Option Fault
or_else (Some f) other = Some f
or_else None other = other

-- the first refusal behind the loading of the files
abbrev pub fault_of : (needs_main : Bool) → List Part → Option Fault
fault_of needs_main parts =
    or_else (refused parts) (or_else (type_fault (linked parts prelude).types parts) (or_else (assertion_fault (program_of parts) parts) (main_fault needs_main parts)))

pub data Outcome : Type 0 where
  Accepts : List Part → Outcome
  Refuses : Fault → Outcome
  Missing : (file : List ℕ) → Outcome
  TooBig : (file : List ℕ) → Outcome

abbrev pub judged : List Part → Option Fault → Outcome
judged parts None = Accepts parts
judged parts (Some f) = Refuses f

abbrev pub settled : (needs_main : Bool) → Gathered → Outcome
settled needs_main (gathering.Files parts) = judged parts (fault_of needs_main parts)
settled needs_main (gathering.Refuses f) = Refuses f
settled needs_main (gathering.Missing file) = Missing file
settled needs_main (gathering.TooBig file) = TooBig file

-- what the file of this name comes to, with the files that it imports
unfoldable pub outcome : Tree → (name : List ℕ) → (needs_main : Bool) → Outcome
outcome tree name needs_main = settled needs_main (gathered tree name)

-- the program is the one that these files make
pub record IsProgramOf (parts : List Part) (p : Program) : Type 0 where
  pub is_linked : p ≡ record (program_of parts) { checks = p.checks }
  pub assertions : AreAssertions (program_of parts) parts p.checks

-- the program is accepted
pub record Accepted (tree : Tree) (name : List ℕ) (needs_main : Bool) (p : Program) : Type 0 where
  pub parts : List Part
  pub accepts : outcome tree name needs_main ≡ Accepts parts
  pub is_of : IsProgramOf parts p
