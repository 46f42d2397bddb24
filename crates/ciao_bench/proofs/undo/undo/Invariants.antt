use Rattle.std.proofs.Common.{◌≤◌, ◌<◌, length}
use Rattle.ciao_bench.proofs.undo.undo.Given as goal

abbrev pub invariant-loop : goal.invariant-loop
invariant-loop l = (l.found ≤ l.counter) × (l.left.at < length l.heap.terms) × (l.right.at < length l.heap.terms)
