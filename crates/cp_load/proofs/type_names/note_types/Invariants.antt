use Rattle.cp_load.proofs.Typing.{AreNamed}
use Rattle.cp_load.proofs.type_names.note_types.Given as goal

abbrev pub invariant-loop-clause : goal.invariant-loop-clause
invariant-loop-clause l = AreNamed l.fn.names l.clauses l.names l.cause l.clause-index
