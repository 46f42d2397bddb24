use Rattle.std.proofs.Common.{◌≡◌, ◌++◌}
use Rattle.cp_link.proofs.spot.joined.Given as goal

abbrev pub invariant-loop-written : goal.invariant-loop-written
invariant-loop-written l = l.left ≡ l.initial.left ++ l.yielded
