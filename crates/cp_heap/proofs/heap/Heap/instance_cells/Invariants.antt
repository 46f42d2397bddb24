use Rattle.std.proofs.Common.{◌≡◌, ◌++◌, length}
use Rattle.cp_heap.specs.State.{instance_at}
use Rattle.cp_heap.specs.Walk.{waiting, AreLive}
use Rattle.cp_heap.proofs.heap.Heap.instance_cells.Given as goal

abbrev pub invariant-out : goal.invariant-out
invariant-out l = AreLive l.self l.stack.items × (l.cells ++ waiting l.self l.stack.items ≡ instance_at l.self l.at)

abbrev pub decreases-out : goal.decreases-out
decreases-out l = length (waiting l.self l.stack.items)
