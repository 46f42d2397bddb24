use Rattle.std.proofs.Common.{◌≡◌, length}
use Rattle.cp_heap.specs.State.{instance_at, is_ground}
use Rattle.cp_heap.specs.Walk.{waiting, AreLive}
use Rattle.cp_heap.proofs.heap.Heap.is_ground.Given as goal

abbrev pub invariant-walk : goal.invariant-walk
invariant-walk l = AreLive l.self l.stack.items × (is_ground (waiting l.self l.stack.items) ≡ is_ground (instance_at l.self l.fn.at.at))

abbrev pub decreases-walk : goal.decreases-walk
decreases-walk l = length (waiting l.self l.stack.items)
