use Rattle.cp_heap.proofs.BuildLaws.{Extends-refl, Extends-trans}
use Rattle.cp_heap.proofs.laws.extension_is_an_order.Goals as goal

pub returns : goal.returns
returns c = record { same = Extends-refl; further = Extends-trans }
