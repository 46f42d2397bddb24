use Rattle.std.proofs.Common.{◌∷◌, ◌++◌, [], sym, ◌∙◌, ap, subst}
use Rattle.std.specs.Prelude.{pos, IfOk}
use Rattle.cp_term.specs.declared.cell.Cell.TheVariants.{Int}
use Rattle.cp_term.specs.Unification.{unify}
use Rattle.cp_heap.specs.State.{State, term, substitution}
use Rattle.cp_heap.specs.Looks.{name_of}
use Rattle.cp_heap.proofs.lemmas.Growth.{term-stays}
use Rattle.cp_goal.specs.Builtins.{by, functor_row}
use Rattle.cp_builtin.specs.Ends.{HasEnded}
use Rattle.cp_builtin.proofs.functor.functor.Goals as goal

pub returns-in_ok-found-in-Atom-clause-ended : goal.returns-in_ok-found-in-Atom-clause-ended
returns-in_ok-found-in-Atom-clause-ended c =
    let h : State = c.args.heap.now in
    let h1 : State = c.name_at.new.heap in
    let shown = c.in-Atom.ensures.first in
    let made = c.in_ok-found-in-Atom.ensures in
    let found = made.term shown.0 (ap name_of shown.1) in
    let name = term-stays h h1 made.extends c.args.name.at c.requires.name in
    let arity = term-stays h h1 made.extends c.args.arity.at c.requires.arity in
    let all = (λ i. by (unify (made.bindings i) (name i ++ arity i) (found i ++ Int (pos 0) ∷ [])) (made.variables i))
    ∙ sym (ap (λ cells. functor_row cells (term h c.args.whole.at) (term h c.args.name.at) (term h c.args.arity.at) (substitution h) h.variables) shown.1) in
    subst (λ end. IfOk c.unified_functor-in-Atom.result (λ ended. HasEnded c.unified_functor-in-Atom.new.heap ended end)) all c.unified_functor-in-Atom.ensures.ended

pub returns-in_ok-found-in-Func-clause-ended : goal.returns-in_ok-found-in-Func-clause-ended
returns-in_ok-found-in-Func-clause-ended c =
    let h : State = c.args.heap.now in
    let h1 : State = c.name_at-in-Func.new.heap in
    let shown = c.in-Func.ensures.first in
    let made = c.in_ok-found-in-Func.ensures in
    let found = made.term shown.0 (ap name_of shown.2) in
    let name = term-stays h h1 made.extends c.args.name.at c.requires.name in
    let arity = term-stays h h1 made.extends c.args.arity.at c.requires.arity in
    let all = (λ i. by (unify (made.bindings i) (name i ++ arity i) (found i ++ Int (pos c.in-Func.count) ∷ [])) (made.variables i))
    ∙ sym (ap (λ cells. functor_row cells (term h c.args.whole.at) (term h c.args.name.at) (term h c.args.arity.at) (substitution h) h.variables) shown.2) in
    subst (λ end. IfOk c.unified_functor-in-Func.result (λ ended. HasEnded c.unified_functor-in-Func.new.heap ended end)) all c.unified_functor-in-Func.ensures.ended
