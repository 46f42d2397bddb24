use Rattle.std.proofs.Common.{◌≡◌, take}
use Rattle.cp_io.proofs.memory.calls.Calls.anew.Given as goal

abbrev pub invariant-loop-fail : goal.invariant-loop-fail
invariant-loop-fail l = l.fails ≡ take l.fail-index l.self.fails
