use Rattle.std.proofs.Common.{◌≡◌, ◌<◌, length}
use Rattle.cp_heap.specs.State.{instance_at, AreRefs}
use Rattle.cp_goal.specs.Lists.{spine}
use Rattle.cp_lists.specs.Places.{instances}
use Rattle.cp_lists.specs.Steps.{behind}
use Rattle.cp_lists.proofs.spine.Spine.of.Given as goal

abbrev pub invariant-tails : goal.invariant-tails
invariant-tails l = record {
  live : l.tail.at < length l.heap.terms;
  elements : AreRefs l.heap l.elements;
  is : spine (instance_at l.heap l.fn.at.at) ≡ behind (instances l.heap l.elements) (spine (instance_at l.heap l.tail.at));
}

abbrev pub decreases-tails : goal.decreases-tails
decreases-tails l = length (instance_at l.heap l.tail.at)
