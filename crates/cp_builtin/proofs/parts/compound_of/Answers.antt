use Rattle.std.proofs.Common.{◌≡◌, ◌∙◌, ◌∷◌, length, ap, subst, List}
use Rattle.std.specs.Prelude.{Some}
use Rattle.std.specs.List.{flat_map}
use Rattle.cp_term.specs.declared.cell.Cell.TheVariants.{Func}
use Rattle.cp_heap.specs.declared.reference.Ref.{Ref}
use Rattle.cp_heap.specs.State.{term, terms_at}
use Rattle.cp_lists.specs.Growing.{GainsTerms}
use Rattle.cp_builtin.proofs.ListLaws.{compound_named}
use Rattle.cp_builtin.proofs.parts.compound_of.Goals as goal

pub returns-clause-instance : goal.returns-clause-instance
returns-clause-instance c = λ a atom.
    let old = c.args.heap.now in
    let new = c.compound.new.self in
    let made = c.in_ok-made.ensures in
    let gains : GainsTerms old new = record { bindings = made.bindings; extends = made.extends; trail = made.trail; variables = made.variables } in
    compound_named old new gains c.args.head.at c.requires.head a c.in_ok-name.name c.args.arguments.now c.in_ok-made.made.at
    atom (ap Some c.in_ok-name.ensures.cases ∙ c.in-Some.ensures)
    (subst (λ (refs : List Ref). term new c.in_ok-made.made.at ≡ Func c.in_ok-name.name (length refs) ∷ flat_map (λ t. t) (terms_at old refs)) c.in_ok-places.ensures made.term)
