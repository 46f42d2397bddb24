use Rattle.std.proofs.Common.{◌≤◌, ◌*◌}
use Rattle.ciao_bench.proofs.operators.found_in.Given as goal

abbrev pub invariant-loop-name : goal.invariant-loop-name
invariant-loop-name l = l.found ≤ 2 * l.name-index
