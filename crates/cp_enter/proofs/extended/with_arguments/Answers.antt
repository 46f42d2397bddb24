use Rattle.std.proofs.Common.{◌≡◌, ◌∙◌, ◌+◌, ◌≤◌, ◌++◌, length, length-append, ap, arith}
use Rattle.std.specs.Prelude.{take, drop}
use Rattle.cp_heap.specs.State.{substitution, terms_at}
use Rattle.cp_enter.proofs.ExtendLaws.{goal-made, terms-both}
use Rattle.cp_enter.proofs.extended.with_arguments.Goals as goal

pub returns-clause-goal : goal.returns-clause-goal
returns-clause-goal c =
    let h = c.args.heap.now in
    let both : c.push_all.new.places ≡ c.in_ok-arguments.arguments ++ c.args.extra.now = c.in_ok-push_all.ensures ∙ ap (λ l. c.in_ok-arguments.arguments ++ l) c.as_slice.ensures in
    let len : length c.push_all.new.places ≡ c.args.arity + length c.args.extra.now = ap length both ∙ length-append c.in_ok-arguments.arguments c.args.extra.now ∙ ap (λ k. k + length c.args.extra.now) c.in_ok-arguments.ensures.len in
    let few : c.args.arity + length c.args.extra.now ≤ 255 = grind (arith, c.len.ensures, c.if-arity-len-gt255.false) in (
      c.in_ok-goal.ensures.live,
      goal-made (substitution h) _ _ _ _ _ _ (take c.args.arity (drop c.args.first h.terms)) (terms_at h c.args.extra.now) (terms_at h c.push_all.new.places)
          c.in_ok-goal.ensures.bindings c.in_ok-goal.ensures.term (c.in_ok-name.ensures.cases ∙ c.name_at.ensures) len
          (terms-both h c.push_all.new.places c.in_ok-arguments.arguments c.args.extra.now _ both (c.in_ok-arguments.ensures.terms h.terms c.requires.places)) few,
    )
