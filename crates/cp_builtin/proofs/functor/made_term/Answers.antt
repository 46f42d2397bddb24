use Rattle.std.proofs.Common.{◌<◌, sym, ◌∙◌, ap, subst, arith}
use Rattle.std.specs.Prelude.{IfOk}
use Rattle.cp_term.specs.Unification.{unify}
use Rattle.cp_heap.specs.State.{State, term, substitution}
use Rattle.cp_heap.specs.Looks.{name_of}
use Rattle.cp_heap.proofs.lemmas.Growth.{term-stays}
use Rattle.cp_goal.specs.Builtins.{by, with_made, made_term}
use Rattle.cp_builtin.specs.Ends.{HasEnded}
use Rattle.cp_builtin.proofs.FunctorLaws.{made_term-atom}
use Rattle.cp_builtin.proofs.functor.made_term.Goals as goal

pub returns-in_ok-made-in-Atom-clause-ended : goal.returns-in_ok-made-in-Atom-clause-ended
returns-in_ok-made-in-Atom-clause-ended c =
    let h : State = c.args.heap.now in
    let h1 : State = c.made_compound.new.heap in
    let k = c.args.count in
    let n = h.variables in
    let some : 0 < k = let q = c.if-count-eq0-2.false in omega arith in
    let shown = c.in-Atom.ensures.first in
    let made = c.in_ok-made-in-Atom.ensures in
    let new = made.term shown.0 (ap name_of shown.1) in
    let whole = term-stays h h1 made.extends c.args.whole.at c.requires.whole in
    let all = (λ i. by (unify (made.bindings i) (whole i) (new i)) (made.variables i))
    ∙ sym (ap (λ cells. with_made (made_term cells k n) (term h c.args.whole.at) k (substitution h) n) shown.1
    ∙ ap (λ r. with_made r (term h c.args.whole.at) k (substitution h) n) (made_term-atom shown.0 k n some)) in
    subst (λ end. IfOk c.unified-else-count-eq0-2.result (λ ended. HasEnded c.unified-else-count-eq0-2.new.heap ended end)) all c.unified-else-count-eq0-2.ensures.ended
