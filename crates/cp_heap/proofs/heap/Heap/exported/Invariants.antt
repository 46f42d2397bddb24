use Rattle.std.proofs.Common.{◌≡◌, ◌≤◌, ◌-◌, ◌++◌, length}
use Rattle.cp_term.specs.Numbering.{canon_from, canon}
use Rattle.cp_heap.specs.State.{instance_at}
use Rattle.cp_heap.specs.Walk.{waiting, AreLive}
use Rattle.cp_heap.proofs.heap.Heap.exported.Given as goal

abbrev pub invariant-out : goal.invariant-out
invariant-out l = AreLive l.self l.stack.items × (length l.cells ≤ l.most) × (l.cells ++ canon_from l.seen.keys (waiting l.self l.stack.items) ≡ canon (instance_at l.self l.at))

abbrev pub decreases-out : goal.decreases-out
decreases-out l = l.most - length l.cells
