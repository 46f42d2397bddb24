-- What loading has to promise of a program for its goals to be run.
use Rattle.cp_code.specs.declared.program.Program.{Program}
use Rattle.cp_code.specs.Lawful.{IsLawful}
use Rattle.cp_run.specs.Programs.{HasGoodBodies}
use Rattle.cp_calls.specs.Goals.{HasGoodChecks}

-- Its shared predicates are among its objects, its bodies are goals, and its checks speak of arguments that there are.
pub record IsGood (p : Program) : Type 0 where
  pub lawful : IsLawful p
  pub bodies : HasGoodBodies p
  pub checks : HasGoodChecks p
