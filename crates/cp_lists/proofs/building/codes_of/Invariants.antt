use Rattle.std.proofs.Common.{◌≡◌, map, take}
use Rattle.cp_heap.specs.State.{AreRefs, terms_at}
use Rattle.cp_goal.specs.Lists.{code_term}
use Rattle.cp_lists.specs.Growing.{GainsTerms}
use Rattle.cp_lists.proofs.building.codes_of.Given as goal

abbrev pub invariant-characters : goal.invariant-characters
invariant-characters l = record {
  gains : GainsTerms l.fn.heap l.heap;
  live : AreRefs l.heap l.codes;
  terms : terms_at l.heap l.codes ≡ map code_term (take l.character-index l.characters);
}
