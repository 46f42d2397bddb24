use Rattle.std.proofs.Common.{◌≡◌, ◌<◌, ◌≤◌, length, drop}
use Rattle.cp_heap.specs.State.{term, terms_at}
use Rattle.cp_goal.specs.Lists.{list_term}
use Rattle.cp_lists.specs.Growing.{GainsTerms}
use Rattle.cp_lists.proofs.building.elements_before.Given as goal

abbrev pub invariant-elements : goal.invariant-elements
invariant-elements l = record {
  gains : GainsTerms l.fn.heap l.heap;
  live : l.list.at < length l.heap.terms;
  within : l.at ≤ length l.elements;
  term : term l.heap l.list.at ≡ list_term (terms_at l.fn.heap (drop l.at l.elements));
}

abbrev pub decreases-elements : goal.decreases-elements
decreases-elements l = l.at
