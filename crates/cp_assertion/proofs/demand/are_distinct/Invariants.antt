use Rattle.std.proofs.Common.{◌≡◌, length}
use Rattle.cp_assertion.specs.RegularTypes.{are_distinct}
use Rattle.cp_assertion.proofs.demand.are_distinct.Given as goal

abbrev pub invariant-demands : goal.invariant-demands
invariant-demands l = are_distinct l.demands ≡ are_distinct l.rest

abbrev pub decreases-demands : goal.decreases-demands
decreases-demands l = length l.rest
