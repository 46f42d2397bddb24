use Rattle.std.proofs.Common.{◌≡◌, take}
use Rattle.cp_term.specs.Preorder.{arguments}
use Rattle.cp_heap.specs.State.{instance_at, AreRefs}
use Rattle.cp_lists.specs.Places.{instances}
use Rattle.cp_goals.proofs.arguments.arguments_of.Given as goal

abbrev pub invariant-arguments : goal.invariant-arguments
invariant-arguments l = record {
  live : AreRefs l.heap l.places;
  pushed : instances l.heap l.places ≡ take l.index (arguments (instance_at l.heap l.at.at));
}
