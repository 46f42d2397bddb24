use Rattle.std.proofs.Common.{◌≡◌, drop}
use Rattle.cp_link.specs.Linked.{suspends}
use Rattle.cp_assemble.proofs.kinds.suspends.Given as goal

abbrev pub invariant-loop-clause : goal.invariant-loop-clause
invariant-loop-clause l = suspends (drop l.clause-index l.clauses) l.pred ≡ suspends l.clauses l.pred
