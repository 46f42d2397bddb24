use Rattle.std.proofs.Common.{◌≡◌, ◌+◌, [], get_or, sym, ◌∙◌, ap, subst}
use Rattle.cp_term.specs.Numbering.{fresh, next_variable}
use Rattle.cp_term.specs.Substitution.{apply}
use Rattle.cp_term.specs.Unification.{unify}
use Rattle.cp_heap.specs.State.{State, substitution}
use Rattle.cp_heap.proofs.BuildLaws.{Extends-trans}
use Rattle.std.proofs.lemmas.Option.{get_or_from_slice_get}
use Rattle.cp_run.specs.declared.run.Run.{Run}
use Rattle.cp_run.specs.Shown.{here_of, instance_in}
use Rattle.cp_run.specs.Entering.{IsExtended}
use Rattle.cp_run.proofs.GrowthLaws.{get-of-grown}
use Rattle.cp_run.proofs.EnteringLaws.{extended-is}
use Rattle.cp_calls.proofs.giving.unify_answer.Goals as goal

pub unify-requires-clause-holds : goal.unify-requires-clause-holds
unify-requires-clause-holds c = (extended-is c.args.run.now c.import.new.self c.requires.holds c.in_ok-at.ensures.extends).holds

pub returns-clause-unified : goal.returns-clause-unified
returns-clause-unified c =
    let h = c.args.run.now.heap in
    let new = c.import.new.self in
    let s = substitution h in
    let g = instance_in (here_of c.args.run.now) c.args.goal.at in
    let is : get_or c.args.answer.now.answers c.args.from [] ≡ c.in-Some.found.now = get_or_from_slice_get c.args.answer.now.answers c.args.from c.in-Some.found.now [] (sym c.in-Some.ensures.value) in
    let same : apply (substitution new) (get_or new.terms c.args.goal.at []) ≡ g =
    ap (λ s. apply s (get_or new.terms c.args.goal.at [])) c.in_ok-at.ensures.bindings
    ∙ ap (apply s) (get-of-grown h.terms new.terms c.args.goal.at [] c.in_ok-at.ensures.extends.terms c.requires.goal) in
    ap (λ t. unify s g (fresh h.variables t)) is
    ∙ ap (λ t. unify s g t) (sym c.in_ok-at.ensures.term)
    ∙ ap (λ t. unify s t (get_or new.terms c.in_ok-at.at.at [])) (sym same)
    ∙ ap (λ s. unify s (apply (substitution new) (get_or new.terms c.args.goal.at [])) (get_or new.terms c.in_ok-at.at.at [])) (sym c.in_ok-at.ensures.bindings)
    ∙ c.in_ok-unified.ensures.unified

pub returns-clause-variables : goal.returns-clause-variables
returns-clause-variables c =
    let is : get_or c.args.answer.now.answers c.args.from [] ≡ c.in-Some.found.now = get_or_from_slice_get c.args.answer.now.answers c.args.from c.in-Some.found.now [] (sym c.in-Some.ensures.value) in
    ap (λ (h : State). h.variables) c.in_ok-unified.ensures.kept ∙ c.in_ok-at.ensures.variables ∙ sym (ap (λ t. c.args.run.now.heap.variables + next_variable t) is)

pub returns-clause-extended : goal.returns-clause-extended
returns-clause-extended c =
    let P : Run → Type 0 = λ r. IsExtended c.args.run.now r in
    subst P (sym c.in_ok-unified.ensures.extended.state)
    (extended-is c.args.run.now c.unify.new.self.heap c.requires.holds (Extends-trans c.args.run.now.heap c.import.new.self c.unify.new.self.heap c.in_ok-at.ensures.extends c.in_ok-unified.ensures.extended.heap))
