use Rattle.std.proofs.Common.{◌≡◌, drop}
use Rattle.cp_assertion.specs.Assertions.{are_variables_from}
use Rattle.cp_assertion.proofs.head.are_variables.Given as goal

-- the rest has to be the variables that come next
abbrev pub invariant-loop-at : goal.invariant-loop-at
invariant-loop-at l = are_variables_from 0 l.cells ≡ are_variables_from l.at (drop l.at l.cells)
