use Rattle.std.proofs.Common.{drop}
use Rattle.cp_load.proofs.Crowding.{IsNoted}
use Rattle.cp_load.proofs.known.note_imports.Given as goal

abbrev pub invariant-loop-clause : goal.invariant-loop-clause
invariant-loop-clause l = IsNoted l.fn.known l.file l.clauses l.cause l.known (drop l.clause-index l.clauses)
