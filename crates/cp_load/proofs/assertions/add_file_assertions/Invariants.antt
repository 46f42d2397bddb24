use Rattle.std.proofs.Common.{drop}
use Rattle.cp_link.specs.Modules.{name_of}
use Rattle.cp_load.proofs.Asserting.{AreRead}
use Rattle.cp_load.proofs.assertions.add_file_assertions.Given as goal

abbrev pub invariant-loop-clause : goal.invariant-loop-clause
invariant-loop-clause l = AreRead l.fn.program (name_of l.part) l.clause-items l.program l.cause (drop l.clause-index l.clause-items)
