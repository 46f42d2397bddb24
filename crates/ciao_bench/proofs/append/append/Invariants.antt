use Rattle.std.proofs.Common.{◌<◌, length}
use Rattle.ciao_bench.proofs.append.append.Given as goal

abbrev pub invariant-loop-appended : goal.invariant-loop-appended
invariant-loop-appended l = l.last.at < length l.heap.terms
