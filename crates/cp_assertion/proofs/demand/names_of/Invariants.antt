use Rattle.std.proofs.Common.{◌≡◌}
use Rattle.cp_assertion.specs.RegularTypes.{names_in}
use Rattle.cp_assertion.proofs.demand.names_of.Given as goal

abbrev pub invariant-loop-demand : goal.invariant-loop-demand
invariant-loop-demand l = l.names ≡ names_in l.yielded
