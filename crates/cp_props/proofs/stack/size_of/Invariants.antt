use Rattle.std.proofs.Common.{◌≡◌, ◌+◌, length}
use Rattle.cp_heap.specs.State.{instance_at, AreRefs}
use Rattle.cp_props.specs.Pending.{pending}
use Rattle.cp_props.proofs.stack.size_of.Given as goal

abbrev pub invariant-cells : goal.invariant-cells
invariant-cells l = record {
  places : AreRefs l.heap l.stack;
  counted : l.size + length (pending l.heap l.stack) ≡ length (instance_at l.heap l.fn.at.at);
}

abbrev pub decreases-cells : goal.decreases-cells
decreases-cells l = length (pending l.heap l.stack)
