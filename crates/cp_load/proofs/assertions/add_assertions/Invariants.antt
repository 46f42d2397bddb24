use Rattle.std.proofs.Common.{drop}
use Rattle.cp_load.proofs.Asserting.{AreFilesRead}
use Rattle.cp_load.proofs.assertions.add_assertions.Given as goal

abbrev pub invariant-loop-part : goal.invariant-loop-part
invariant-loop-part l = AreFilesRead l.fn.program l.parts l.program (drop l.part-index l.parts)
