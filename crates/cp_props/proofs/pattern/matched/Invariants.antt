use Rattle.std.proofs.Common.{◌≡◌, true, length, drop}
use Rattle.cp_term.specs.Preorder.{is_terms}
use Rattle.cp_heap.specs.State.{instance_at, AreRefs}
use Rattle.cp_code.specs.Properties.{matched}
use Rattle.cp_props.specs.Pending.{pending}
use Rattle.cp_props.specs.Patterns.{places_shown, ArePlaces, found}
use Rattle.cp_props.proofs.pattern.matched.Given as goal

abbrev pub invariant-cells : goal.invariant-cells
invariant-cells l = record {
  stack : AreRefs l.heap l.stack;
  places : ArePlaces l.heap l.places;
  terms : is_terms (length l.stack) (drop l.cell-index l.pattern) ≡ true;
  so_far : matched l.pattern (instance_at l.heap l.fn.at.at) ≡ found (places_shown l.heap l.places) (matched (drop l.cell-index l.pattern) (pending l.heap l.stack));
}
