use Rattle.std.proofs.Common.{◌≡◌, ◌≤◌, ◌++◌}
use Rattle.cp_heap.specs.Walk.{places_from}
use Rattle.cp_heap.proofs.heap.walk.push_places.Given as goal

abbrev pub invariant-places : goal.invariant-places
invariant-places l = (l.left ≤ l.count) × (l.stack.items ++ places_from l.first l.left ≡ l.fn.stack.items ++ places_from l.first l.count)

abbrev pub decreases-places : goal.decreases-places
decreases-places l = l.left
