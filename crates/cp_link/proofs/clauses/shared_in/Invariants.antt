use Rattle.std.proofs.Common.{◌≡◌, take}
use Rattle.cp_link.specs.Modules.{shared_in}
use Rattle.cp_link.proofs.clauses.shared_in.Given as goal

abbrev pub invariant-loop-clause : goal.invariant-loop-clause
invariant-loop-clause l = l.all ≡ shared_in (take l.clause-index l.clauses)
