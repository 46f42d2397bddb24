use Rattle.std.proofs.Common.{rules, ◌≡◌, ◌≤◌, ◌<◌, List, length, sym, ◌∙◌, ap, subst}
use Rattle.std.specs.Prelude.{IfOk}
use Rattle.cp_term.specs.declared.cell.Cell.{Cell}
use Rattle.cp_term.specs.Numbering.{canon}
use Rattle.cp_heap.specs.State.{State, instance_at}
use Rattle.cp_goal.specs.Builtins.{context}
use Rattle.cp_builtin.proofs.BallLaws.{ball-fits, ball-too_large, error-instance}
use Rattle.cp_builtin.proofs.ball.error_ball.Goals as goal

pub returns-in-Ok-clause-ball : goal.returns-in-Ok-clause-ball
returns-in-Ok-clause-ball c =
    let h : State = c.args.heap.now in
    let name = c.args.context.now in
    let first = c.in_ok-indicator.ensures in
    let made = c.in_ok-error.ensures in
    let all = error-instance h c.context_of.new.heap c.with_two.new.heap c.args.kind.at c.in_ok-indicator.indicator.at c.in_ok-error.error.at name.module name.name name.arity
    first.extends first.bindings c.requires first.term made.bindings made.term in
    let fits = subst (λ cells. length cells ≤ 4096) all c.in-Ok.ensures.fits in
    c.in-Ok.ensures.term ∙ ap canon all ∙ sym (ball-fits (instance_at h c.args.kind.at) (context name.module name.name name.arity) fits)

pub returns-in-Err-TooLarge-clause-ball : goal.returns-in-Err-TooLarge-clause-ball
returns-in-Err-TooLarge-clause-ball c =
    let h : State = c.args.heap.now in
    let name = c.args.context.now in
    let first = c.in_ok-indicator.ensures in
    let made = c.in_ok-error.ensures in
    let all = error-instance h c.context_of.new.heap c.with_two.new.heap c.args.kind.at c.in_ok-indicator.indicator.at c.in_ok-error.error.at name.module name.name name.arity
    first.extends first.bindings c.requires first.term made.bindings made.term in
    let large = subst (λ cells. 4096 < length cells) all (c.in-Err-TooLarge.ensures.too_large (search rules)) in
    subst (λ (cells : List Cell). IfOk c.too_large.result (λ t. t ≡ cells)) (sym (ball-too_large (instance_at h c.args.kind.at) (context name.module name.name name.arity) large)) c.too_large.ensures.ball
