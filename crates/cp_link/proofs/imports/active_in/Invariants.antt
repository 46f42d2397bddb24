use Rattle.std.proofs.Common.{◌≡◌, take}
use Rattle.cp_link.specs.Imports.{active_in}
use Rattle.cp_link.proofs.imports.active_in.Given as goal

abbrev pub invariant-loop-clause : goal.invariant-loop-clause
invariant-loop-clause l = l.all ≡ active_in (take l.clause-index l.clauses)
