use Rattle.std.proofs.Common.{rules, to_z, w64, ◌≡◌, ◌<◌, ◌∷◌, [], length, ◌∙◌, ap, subst, arith}
use Rattle.std.specs.Prelude.{codes, pos, IfOk}
use Rattle.cp_term.specs.declared.cell.Cell.TheVariants.{Int}
use Rattle.cp_term.specs.Unification.{unify}
use Rattle.cp_heap.specs.State.{State, term, substitution}
use Rattle.cp_heap.proofs.lemmas.Growth.{term-stays, places-more}
use Rattle.cp_goal.specs.Errors.{with_two}
use Rattle.cp_goal.specs.Builtins.{by}
use Rattle.cp_builtin.specs.Ends.{HasEnded}
use Rattle.cp_builtin.proofs.FunctorLaws.{unify-with_two}
use Rattle.cp_builtin.proofs.functor.unified_functor.Goals as goal

pub returns-clause-ended : goal.returns-clause-ended
returns-clause-ended c =
    let h0 : State = c.args.heap.now in
    let h1 : State = c.integer.new.self in
    let h2 : State = c.with_two.new.heap in
    let h3 : State = c.with_two-2.new.heap in
    let e1 = c.in_ok-count.ensures in
    let e2 = c.in_ok-asked.ensures in
    let e3 = c.in_ok-made.ensures in
    let name = term-stays h0 h1 e1.extends c.args.name.at c.requires.name in
    let arity = term-stays h0 h1 e1.extends c.args.arity.at c.requires.arity in
    let more = places-more h0 h1 e1.extends in
    let live : c.args.found.at < length h1.terms = let l = c.requires.found in omega arith in
    let found = term-stays h1 h2 e2.extends c.args.found.at live ∙ term-stays h0 h1 e1.extends c.args.found.at c.requires.found in
    let number : to_z w64 c.args.count ≡ pos c.args.count = search rules in
    let count = term-stays h1 h2 e2.extends c.in_ok-count.count.at e1.live ∙ e1.term ∙ ap (λ z. Int z ∷ []) number in
    let asked = term-stays h2 h3 e3.extends c.in_ok-asked.asked.at e2.live ∙ e2.term ∙ (λ i. with_two (codes ",") (name i) (arity i)) in
    let made = e3.term ∙ (λ i. with_two (codes ",") (found i) (count i)) in
    let bindings = e3.bindings ∙ e2.bindings ∙ e1.bindings in
    let variables = e3.variables ∙ e2.variables ∙ e1.variables in
    let all = (λ i. by (unify (bindings i) (asked i) (made i)) (variables i))
    ∙ ap (λ u. by u h0.variables) (unify-with_two (substitution h0) (codes ",") (term h0 c.args.name.at) (term h0 c.args.arity.at) (term h0 c.args.found.at) (Int (pos c.args.count) ∷ [])) in
    subst (λ end. IfOk c.unified.result (λ ended. HasEnded c.unified.new.heap ended end)) all c.unified.ensures.ended
