use Rattle.std.proofs.Common.{◌≡◌, ◌++◌, take}
use Rattle.cp_heap.specs.State.{terms_at}
use Rattle.cp_heap.proofs.heap.Heap.put_side_by_side.Given as goal

abbrev pub invariant-places : goal.invariant-places
invariant-places l = l.self ≡ record l.fn.self { terms = l.fn.self.terms ++ terms_at l.fn.self (take l.place-index l.places) }
