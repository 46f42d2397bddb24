use Rattle.std.proofs.Common.{◌≤◌, ◌*◌}
use Rattle.ciao_bench.proofs.operators.operators.Given as goal

abbrev pub invariant-loop : goal.invariant-loop
invariant-loop l = l.found ≤ 16 * l.counter
