use Rattle.std.proofs.Common.{◌≡◌, ◌∙◌, ap, subst}
use Rattle.std.specs.Prelude.{IfOk}
use Rattle.cp_heap.specs.declared.reference.Ref.{Ref}
use Rattle.cp_heap.specs.State.{term, terms_at}
use Rattle.cp_goal.specs.Lists.{list_term}
use Rattle.cp_lists.proofs.lemmas.Growth.{terms-stay}
use Rattle.cp_lists.proofs.building.list_of.Goals as goal

pub returns-clause-term : goal.returns-clause-term
returns-clause-term c =
    let made = c.in_ok-end-2.ensures in
    subst (λ ts. IfOk c.elements_before.result (λ (r : Ref). term c.elements_before.new.heap r.at ≡ list_term ts))
    (ap (terms_at c.atom.new.self) c.as_slice.ensures
    ∙ terms-stay c.args.heap.now c.atom.new.self (record { bindings = made.bindings; extends = made.extends; trail = made.trail; variables = made.variables }) c.args.elements.now c.requires)
    c.elements_before.ensures.term
