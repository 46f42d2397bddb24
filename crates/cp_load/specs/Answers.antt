-- What loading answers.
use Rattle.std.specs.Prelude.{◌≡◌, ℕ, Bool, List, [], ◌∷◌, Option, Result, Ok, Err, IfSome}
use Rattle.cp_io.specs.Cause.{Rose}
use Rattle.cp_io.specs.Content.{Tree}
use Rattle.cp_code.specs.declared.assertion.Assertion.{Assertion}
use Rattle.cp_code.specs.declared.program.Program.{Program}
use Rattle.cp_link.specs.Lawful.{IsRunnable}
use Rattle.cp_assertion.specs.Assertions.{SpeaksOfArguments}
use Rattle.cp_load.specs.declared.error.LoadError.{LoadError}
use Rattle.cp_load.specs.declared.error.LoadError.TheVariants as error
use Rattle.cp_load.specs.Accepted as accepted
use Rattle.cp_load.specs.Accepted.{outcome, Accepted}
use Rattle.cp_load.specs.Gathering.{without}

abbrev pub SpeakOfArguments : List Assertion → Type 0
SpeakOfArguments [] = Unit {0}
SpeakOfArguments (a ∷ more) = SpeaksOfArguments a × SpeakOfArguments more

-- What an engine rests on: shared predicates are objects, bodies are goals, and assertions speak of arguments that their
-- predicates have.
pub record IsSafe (p : Program) : Type 0 where
  pub runnable : IsRunnable p
  pub arguments : SpeakOfArguments p.checks

-- What these files decide, unless memory runs out or a fetch fails; the file of a fetch that failed is the one that is missed
-- where it is not there.
abbrev pub Decides : Tree → (name : List ℕ) → (needs_main : Bool) → Result Program LoadError → Type 0
Decides tree name needs_main (Ok p) = Accepted tree name needs_main p × IsSafe p
Decides tree name needs_main (Err (error.Refused r)) = outcome tree name needs_main ≡ accepted.Refuses (record { file = r.file; cause = record { line = r.line; why = r.why } })
Decides tree name needs_main (Err (error.Missing file)) = outcome tree name needs_main ≡ accepted.Missing file
Decides tree name needs_main (Err (error.FileTooBig file)) = outcome tree name needs_main ≡ accepted.TooBig file
Decides tree name needs_main (Err (error.FileFault file)) = outcome (without file tree) name needs_main ≡ accepted.Missing file
Decides tree name needs_main (Err error.NoMemory) = Unit {0}

-- The answer is what some files decide: those that are told, where they are.
abbrev pub Loads : Option Tree → (name : List ℕ) → (needs_main : Bool) → Result Program LoadError → Type 0
Loads told name needs_main answer = (tree : Tree) × IfSome told (λ files. tree ≡ files) × Decides tree name needs_main answer

-- a fault comes from the files, and so does a miss
abbrev pub HasCause : {A : Type 0} → (faults faults_now misses misses_now : ℕ) → Result A LoadError → Type 0
HasCause faults faults_now misses misses_now (Err (error.FileFault file)) = Rose faults faults_now
HasCause faults faults_now misses misses_now (Err (error.Missing file)) = Rose misses misses_now × (faults_now ≡ faults)
HasCause faults faults_now misses misses_now answer = (faults_now ≡ faults) × (misses_now ≡ misses)
