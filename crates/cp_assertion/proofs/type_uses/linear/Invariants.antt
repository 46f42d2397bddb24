use Rattle.std.proofs.Common.{◌≡◌, ◌≤◌, drop}
use Rattle.cp_assertion.specs.RegularTypes.{linear_from}
use Rattle.cp_assertion.proofs.type_uses.linear.Given as goal

abbrev pub invariant-loop-cell : goal.invariant-loop-cell
invariant-loop-cell l = (l.next ≤ l.cell-index) × (linear_from 0 l.pattern ≡ linear_from l.next (drop l.cell-index l.pattern))
