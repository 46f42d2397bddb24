use Rattle.std.proofs.Common.{◌≡◌, drop}
use Rattle.cp_io.specs.Calls.{failure_in}
use Rattle.cp_io.proofs.memory.calls.failure_at.Given as goal

abbrev pub invariant-loop-fail : goal.invariant-loop-fail
invariant-loop-fail l = failure_in (drop l.fail-index l.fails) l.call ≡ failure_in l.fails l.call
