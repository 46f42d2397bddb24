use Rattle.std.proofs.Common.{◌≡◌, take}
use Rattle.cp_link.specs.Imports.{imports_in}
use Rattle.cp_link.proofs.imports.imports_in.Given as goal

abbrev pub invariant-loop-clause : goal.invariant-loop-clause
invariant-loop-clause l = l.all ≡ imports_in l.parts l.file (take l.clause-index l.clauses)
