use Rattle.std.proofs.Common.{◌≡◌}
use Rattle.std.specs.Prelude.{map}
use Rattle.cp_schedule.specs.Ended.{engine_ended}
use Rattle.cp_schedule.proofs.end.engine_ends.Given as goal

abbrev pub invariant-loop-shell : goal.invariant-loop-shell
invariant-loop-shell g l = l.ends ≡ map engine_ended l.yielded
