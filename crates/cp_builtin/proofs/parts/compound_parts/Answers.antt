use Rattle.std.proofs.Common.{◌∙◌, ◌++◌, ap}
use Rattle.std.specs.Prelude.{Some}
use Rattle.cp_term.specs.Preorder.{arguments}
use Rattle.cp_heap.specs.State.{instance_at}
use Rattle.cp_lists.specs.Places.{instances}
use Rattle.cp_lists.specs.Growing.{GainsTerms}
use Rattle.cp_builtin.proofs.ListLaws.{compound_told}
use Rattle.cp_builtin.proofs.parts.compound_parts.Goals as goal

pub returns-clause-instances : goal.returns-clause-instances
returns-clause-instances c =
    let old = c.args.heap.now in
    let new = c.atom.new.self in
    let made = c.in_ok-head.ensures in
    let compound = c.requires.compound in
    let gains : GainsTerms old new = record { bindings = made.bindings; extends = made.extends; trail = made.trail; variables = made.variables } in
    compound_told old new gains c.args.whole.at c.requires.whole compound.0 c.in_ok-name.name c.args.arity compound.1 c.in_ok-head.head c.push_arguments.new.places
    compound.2 (ap Some c.in_ok-name.ensures.cases ∙ c.in-Some.ensures) made.term
    (c.in_ok-push_arguments.ensures.pushed ∙ ap (λ refs. instances new refs ++ arguments (instance_at new c.args.whole.at)) c.in_ok-parts.ensures)
