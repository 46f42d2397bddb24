use Rattle.std.proofs.Common.{◌≤◌}
use Rattle.ciao_bench.proofs.facts.taken.Given as goal

abbrev pub invariant-loop : goal.invariant-loop
invariant-loop l = l.found ≤ l.counter
