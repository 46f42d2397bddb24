-- What files make, from what is gathered to a program.
use Rattle.std.specs.Prelude.{◌≡◌, Bool, List, [], Option, Some, None, Result, Ok, Err}
use Rattle.cp_ops.specs.Operators.{Ops}
use Rattle.cp_code.specs.declared.program.Program.{Program}
use Rattle.cp_module.specs.declared.module.Loaded.{Loaded}
use Rattle.cp_module.specs.declared.module.Loaded.TheVariants as loaded
use Rattle.cp_module.specs.Parts.{Part}
use Rattle.cp_link.specs.Modules.{shared_in}
use Rattle.cp_link.specs.Kept.{fault_of}
use Rattle.cp_link.specs.Refusals as refusals
use Rattle.cp_assemble.specs.Answers.{Assembles}
use Rattle.cp_link.specs.Lawful.{IsRunnable}
use Rattle.cp_load.specs.declared.error.LoadError.{LoadError}
use Rattle.cp_load.specs.declared.error.LoadError.TheVariants as error
use Rattle.cp_load.specs.Prelude.{prelude}
use Rattle.cp_load.specs.Accepted as accepted
use Rattle.cp_load.specs.Accepted.{IsProgramOf, or_else, main_fault}
use Rattle.cp_load.specs.Answers.{IsSafe, SpeakOfArguments}
use Rattle.cp_load.specs.Assertions.{assertion_fault, FilesAdd}
use Rattle.cp_load.specs.Types.{type_fault, typed}

-- the prelude, which declares no predicate to be shared, unless memory runs out
abbrev pub IsPrelude : Loaded → Type 0
IsPrelude (loaded.Part p) = (p ≡ prelude) × (shared_in p.clauses ≡ [])
IsPrelude (loaded.Refused r) = ⊥
IsPrelude loaded.NoMemory = Unit {0}

abbrev pub ops_of_part : Part → Ops
ops_of_part p = p.ops

-- the first refusal in the regular types and the assertions of files and for want of `main/0`
abbrev pub completion_fault : (needs_main : Bool) → List Part → Program → Option refusals.Fault
completion_fault needs_main parts p =
    or_else (type_fault p.types parts) (or_else (assertion_fault (record p { types = typed p.types parts }) parts) (main_fault needs_main parts))

-- the program with the clauses of its regular types, and with the assertions of the files behind those that it has
pub record Completes (parts : List Part) (old now : Program) : Type 0 where
  pub kept : now ≡ record old { types = typed old.types parts; checks = now.checks }
  pub added : FilesAdd (record old { types = typed old.types parts }) parts old.checks now.checks
  pub arguments : SpeakOfArguments old.checks → SpeakOfArguments now.checks

-- the program of these files, whose operators are still theirs
abbrev pub MakesLinked : List Part → Result Program LoadError → Type 0
MakesLinked parts (Ok p) = (refusals.refused parts ≡ None) × Assembles parts prelude p × IsRunnable p
MakesLinked parts (Err (error.Refused r)) = refusals.refused parts ≡ Some (fault_of r)
MakesLinked parts (Err error.NoMemory) = Unit {0}
MakesLinked parts (Err other) = ⊥

-- the program of these files, or the first refusal behind their loading
abbrev pub Makes : (needs_main : Bool) → List Part → Result Program LoadError → Type 0
Makes needs_main parts (Ok p) = (accepted.fault_of needs_main parts ≡ None) × IsProgramOf parts p × IsSafe p
Makes needs_main parts (Err (error.Refused r)) = accepted.fault_of needs_main parts ≡ Some (fault_of r)
Makes needs_main parts (Err error.NoMemory) = Unit {0}
Makes needs_main parts (Err other) = ⊥
