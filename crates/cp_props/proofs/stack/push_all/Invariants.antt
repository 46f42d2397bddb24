use Rattle.std.proofs.Common.{◌≡◌, ◌+◌, ◌≤◌, ◌++◌, length, drop}
use Rattle.std.specs.List.{flat_map}
use Rattle.cp_term.specs.Preorder.{arguments}
use Rattle.cp_heap.specs.State.{instance_at, AreRefs}
use Rattle.cp_props.specs.Pending.{pending}
use Rattle.cp_props.proofs.stack.push_all.Given as goal

abbrev pub invariant-arguments : goal.invariant-arguments
invariant-arguments l = record {
  within : l.index ≤ l.arity;
  places : AreRefs l.heap l.stack;
  pushed : pending l.heap l.stack ≡ flat_map (λ t. t) (drop l.index (arguments (instance_at l.heap l.at.at))) ++ pending l.heap l.initial.stack;
  count : length l.stack + l.index ≡ length l.initial.stack + l.arity;
}

abbrev pub decreases-arguments : goal.decreases-arguments
decreases-arguments l = l.index
