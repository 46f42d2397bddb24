use Rattle.std.proofs.Common.{◌≤◌, ◌*◌}
use Rattle.ciao_bench.proofs.write.write.Given as goal

abbrev pub invariant-loop : goal.invariant-loop
invariant-loop l = l.bytes ≤ 4294967296 * l.counter
