use Rattle.std.proofs.Common.{drop}
use Rattle.cp_link.proofs.Passing.{Reached}
use Rattle.cp_link.proofs.whole.part_cause.Given as goal

abbrev pub invariant-loop-clause : goal.invariant-loop-clause
invariant-loop-clause l = Reached l.parts l.before l.part l.kept l.cause (drop l.clause-index l.clauses)
