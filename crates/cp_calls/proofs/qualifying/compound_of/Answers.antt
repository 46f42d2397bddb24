use Rattle.std.proofs.Common.{◌≡◌, ◌∷◌, List, ℕ, length, ◌∙◌, ap, arith}
use Rattle.std.specs.Prelude.{Some}
use Rattle.std.specs.List.{flat_map}
use Rattle.cp_term.specs.declared.cell.Cell.TheVariants.{Func}
use Rattle.cp_heap.specs.State.{term, terms_at, instance_at}
use Rattle.cp_heap.specs.Looks.{name_of}
use Rattle.cp_lists.specs.Growing.{GainsTerms}
use Rattle.cp_builtin.proofs.ListLaws.{name_seen, compound_made}
use Rattle.cp_calls.proofs.GoalLaws.{compound-arity, compound-qualified}
use Rattle.cp_calls.proofs.qualifying.compound_of.Goals as goal

pub compound-requires-clause-some : goal.compound-requires-clause-some
compound-requires-clause-some c =
    let shape = c.requires.compound in
    let both = compound-arity (instance_at c.args.heap.now c.args.goal.at) shape.0 c.args.arity shape.1 shape.2 c.requires.one_term in
    let some = both.0 in
    let n = c.in_ok-places.ensures.len in
    omega arith

pub compound-requires-clause-few : goal.compound-requires-clause-few
compound-requires-clause-few c =
    let shape = c.requires.compound in
    let both = compound-arity (instance_at c.args.heap.now c.args.goal.at) shape.0 c.args.arity shape.1 shape.2 c.requires.one_term in
    let few = both.1 in
    let n = c.in_ok-places.ensures.len in
    omega arith

pub returns-clause-instance : goal.returns-clause-instance
returns-clause-instance c =
    let old = c.args.heap.now in
    let mid = c.arguments_of.new.heap in
    let new = c.compound.new.self in
    let shape = c.requires.compound in
    let places = c.in_ok-places.places in
    let done = c.in_ok-made.ensures in
    let at = c.in_ok-made.made.at in
    let gains : GainsTerms mid new = record { bindings = done.bindings; extends = done.extends; trail = done.trail; variables = done.variables } in
    let same : c.in_ok-name.name ≡ shape.0 = name_seen (instance_at old c.args.goal.at) shape.0 c.in_ok-name.name (ap Some c.in_ok-name.ensures.cases ∙ c.in-Some.ensures) (ap name_of shape.2) in
    let made : term new at ≡ Func shape.0 c.args.arity ∷ flat_map (λ t. t) (terms_at mid places) =
    done.term
    ∙ ap (λ (n : List ℕ). Func n (length places) ∷ flat_map (λ t. t) (terms_at mid places)) same
    ∙ ap (λ k. Func shape.0 k ∷ flat_map (λ t. t) (terms_at mid places)) c.in_ok-places.ensures.len in
    compound_made mid new gains places at shape.0 c.args.arity made
    ∙ ap (λ ts. Func shape.0 c.args.arity ∷ flat_map (λ t. t) ts) c.in_ok-places.ensures.instances
    ∙ compound-qualified c.args.seer.now c.args.marks.now shape.0 c.args.arity shape.1 (instance_at old c.args.goal.at) shape.2
