use Rattle.std.proofs.Common.{◌≡◌, take, length}
use Rattle.cp_term.specs.Preorder.{arguments}
use Rattle.cp_heap.specs.State.{instance_at, AreRefs}
use Rattle.cp_lists.specs.Growing.{GainsTerms}
use Rattle.cp_lists.specs.Places.{instances}
use Rattle.cp_code.specs.Tree.{with_modules}
use Rattle.cp_calls.proofs.qualifying.arguments_of.Given as goal

abbrev pub invariant-arguments : goal.invariant-arguments
invariant-arguments l = record {
  gains : GainsTerms l.fn.heap l.heap;
  live : AreRefs l.heap l.places;
  len : length l.places ≡ l.index;
  pushed : instances l.heap l.places ≡ take l.index (with_modules l.seer l.marks (arguments (instance_at l.fn.heap l.goal.at)));
}
