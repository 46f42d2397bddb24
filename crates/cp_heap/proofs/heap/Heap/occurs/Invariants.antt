use Rattle.std.proofs.Common.{◌≡◌, length}
use Rattle.cp_term.specs.Numbering.{occurs}
use Rattle.cp_heap.specs.State.{instance_at}
use Rattle.cp_heap.specs.Walk.{waiting, AreLive}
use Rattle.cp_heap.proofs.heap.Heap.occurs.Given as goal

abbrev pub invariant-walk : goal.invariant-walk
invariant-walk l = AreLive l.self l.stack.items × (occurs l.variable (waiting l.self l.stack.items) ≡ occurs l.variable (instance_at l.self l.fn.at.at))

abbrev pub decreases-walk : goal.decreases-walk
decreases-walk l = length (waiting l.self l.stack.items)
