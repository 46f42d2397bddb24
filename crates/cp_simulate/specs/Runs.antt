-- What a run of a loaded program is of, and what its outcome is.
use Rattle.std.specs.Prelude.{ℕ, false, List, [], map}
use Rattle.cp_call.specs.declared.outcome.Outcome.{Outcome}
use Rattle.cp_call.specs.Life.{Rule}
use Rattle.cp_call.specs.Setup.{object_of, opening_goals, setup_of}
use Rattle.cp_call.specs.Sound.{Object, Setup, Sound, objects_with}
use Rattle.cp_code.specs.declared.program.Program.{Program}
use Rattle.cp_code.specs.Programs.{code_of, parts_of}
use Rattle.cp_code.specs.Tree.{asks}
use Rattle.cp_hall.specs.Hall.{HallObject}
use Rattle.cp_schedule.specs.Ended.{IsOfWorkers}
use Rattle.cp_schedule.specs.Turns.{IsRunOfSeed}

-- what the goals of a program do with a step budget, by the definition of resolution
abbrev pub rule : Program → (steps : ℕ) → Rule
rule p steps = asks (code_of p steps)

-- what a run of workers is of
abbrev pub setup : Program → (steps : ℕ) → Setup
setup p steps = setup_of (rule p steps) (parts_of p) false

-- its shared objects: the list of goals, which begins with `M:main`, the list of ended goals, and the program's shared
-- predicates in loading order, each with its opening facts
abbrev pub objects : Program → List Object
objects p = objects_with (opening_goals p.first false) (map object_of (parts_of p).shared)

-- an object of a hall that nobody has asked yet
abbrev pub unasked : Object → HallObject
unasked o = record { object = o; history = [] }

-- An outcome of the program under the schedule of a seed: it is sound for the program with this step budget, of so many
-- workers, and the end of the run in which the words of the seed's generator pick whose turn it is.
pub record IsRunOf (p : Program) (seed steps engines : ℕ) (o : Outcome) : Type 0 where
  pub sound : Sound (setup p steps) o
  pub workers : IsOfWorkers steps engines o
  pub turns : IsRunOfSeed (setup p steps) seed steps engines o
