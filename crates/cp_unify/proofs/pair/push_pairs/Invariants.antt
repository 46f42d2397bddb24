use Rattle.std.proofs.Common.{◌≡◌, ◌≤◌, ◌++◌}
use Rattle.cp_unify.specs.Pairs.{pairs_from}
use Rattle.cp_unify.proofs.pair.push_pairs.Given as goal

abbrev pub invariant-pairs : goal.invariant-pairs
invariant-pairs l = (l.rest ≤ l.count) × (l.pairs.items ++ pairs_from l.left l.right l.rest ≡ l.fn.pairs.items ++ pairs_from l.left l.right l.count)

abbrev pub decreases-pairs : goal.decreases-pairs
decreases-pairs l = l.rest
