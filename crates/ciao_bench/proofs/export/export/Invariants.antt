use Rattle.std.proofs.Common.{◌≤◌, ◌*◌}
use Rattle.ciao_bench.proofs.export.export.Given as goal

abbrev pub invariant-loop : goal.invariant-loop
invariant-loop l = l.cells ≤ 4294967296 * l.counter
