use Rattle.std.proofs.Common.{◌≤◌}
use Rattle.ciao_bench.proofs.facts.looked_up.Given as goal

abbrev pub invariant-loop-number : goal.invariant-loop-number
invariant-loop-number l = l.found ≤ l.number
