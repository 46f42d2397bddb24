use Rattle.std.proofs.Common.{◌≡◌, ◌++◌}
use Rattle.cp_assertion.proofs.body_part.appended.Given as goal

abbrev pub invariant-loop-demand : goal.invariant-loop-demand
invariant-loop-demand l = l.demands ≡ l.initial.demands ++ l.yielded
