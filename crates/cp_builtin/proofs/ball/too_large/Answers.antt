use Rattle.std.proofs.Common.{◌≡◌, ◌<◌, length, ◌∙◌, ap, arith}
use Rattle.std.specs.Prelude.{codes}
use Rattle.cp_heap.specs.State.{State, term}
use Rattle.cp_heap.proofs.lemmas.Growth.{term-stays, places-more}
use Rattle.cp_goal.specs.Errors.{with_one, with_two}
use Rattle.cp_goal.specs.Builtins.{context}
use Rattle.cp_builtin.proofs.BallLaws.{substitute-exported}
use Rattle.cp_builtin.proofs.ball.too_large.Goals as goal

pub returns-in-Ok-clause-ball : goal.returns-in-Ok-clause-ball
returns-in-Ok-clause-ball c =
    let h1 : State = c.context_of.new.heap in
    let h2 : State = c.atom.new.heap in
    let h3 : State = c.with_one.new.heap in
    let h4 : State = c.with_two.new.heap in
    let name = c.args.name.now in
    let at = c.in_ok-context.context.at in
    let first = c.in_ok-context.ensures in
    let second = c.in_ok-resource.ensures in
    let third = c.in_ok-kind.ensures in
    let live1 : at < length h1.terms = first.live in
    let more = places-more h1 h2 second.extends in
    let live2 : at < length h2.terms = omega arith in
    let here : term h3 at ≡ context name.module name.name name.arity = term-stays h2 h3 third.extends at live2 ∙ term-stays h1 h2 second.extends at live1 ∙ first.term in
    let kind = third.term ∙ ap (with_one (codes "resource_error")) second.term in
    c.in-Ok.ensures.term
    ∙ substitute-exported h4 c.in_ok-error.error.at name.module name.name name.arity (c.in_ok-error.ensures.term ∙ (λ i. with_two (codes "error") (kind i) (here i)))
