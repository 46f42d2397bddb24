-- What linking answers.
use Rattle.std.specs.Prelude.{◌≡◌, List, [], Some, None, Result, Ok, Err}
use Rattle.cp_code.specs.declared.program.Program.{Program}
use Rattle.cp_module.specs.Parts.{Part}
use Rattle.cp_assemble.specs.declared.linking.LinkError.{LinkError}
use Rattle.cp_assemble.specs.declared.linking.LinkError.TheVariants as error
use Rattle.cp_link.specs.Refusals.{refused}
use Rattle.cp_link.specs.Linked.{linked}
use Rattle.cp_link.specs.Lawful.{IsRunnable}

-- the program of these files, whose operators are still theirs
abbrev pub Assembles : List Part → (prelude : Part) → Program → Type 0
Assembles parts prelude p = p ≡ record (linked parts prelude) { ops = [] }

-- The files' program, where nothing is refused in them together, or else the first refusal; unless memory runs out.
abbrev pub Links : List Part → (prelude : Part) → Result Program LinkError → Type 0
Links parts prelude (Ok p) = (refused parts ≡ None) × Assembles parts prelude p × IsRunnable p
Links parts prelude (Err (error.Refused r)) = refused parts ≡ Some (record { file = r.file; cause = record { line = r.line; why = r.why } })
Links parts prelude (Err error.NoMemory) = Unit {0}
