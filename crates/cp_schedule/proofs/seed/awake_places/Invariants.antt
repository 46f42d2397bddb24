use Rattle.std.proofs.Common.{◌≡◌}
use Rattle.cp_schedule.specs.Awake.{awake_below}
use Rattle.cp_schedule.proofs.seed.awake_places.Given as goal

abbrev pub invariant-loop-place : goal.invariant-loop-place
invariant-loop-place g l = l.places.items ≡ awake_below l.hall l.shells l.place
