use Rattle.std.proofs.Common.{◌≡◌, take}
use Rattle.cp_assemble.specs.Index.{markings_in}
use Rattle.cp_assemble.proofs.marks.markings_in.Given as goal

abbrev pub invariant-loop-clause : goal.invariant-loop-clause
invariant-loop-clause l = l.all ≡ markings_in (take l.clause-index l.clauses)
