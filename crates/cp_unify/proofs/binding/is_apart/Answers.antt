use Rattle.std.proofs.Common.{◌≡◌, ◌∙◌, ap, refl, arith}
use Rattle.cp_term.specs.Numbering.{occurs}
use Rattle.cp_heap.specs.State.{State}
use Rattle.cp_heap.proofs.FreshLaws.{new_is_apart}
use Rattle.cp_heap.proofs.WalkLaws.{end_instance}
use Rattle.cp_unify.specs.Words.{count_of}
use Rattle.cp_unify.proofs.StepLaws.{no_variable_term, atomic_apart, low_at}
use Rattle.cp_unify.proofs.binding.is_apart.Goals as goal

pub returns-then-argument_count-eq0 : goal.returns-then-argument_count-eq0
returns-then-argument_count-eq0 c =
    let h : State = c.args.heap.now in
    let w = c.word.result in
    let live = c.requires.live in
    let none : count_of w ≡ 0 = let e = c.argument_count.ensures in let t = c.if-argument_count-eq0.true in omega arith in
    ap (occurs c.args.number) (end_instance h _ _ _ c.args.to.at w c.word.ensures.term c.requires.end c.word.ensures.placed (omega arith))
    ∙ atomic_apart h c.args.number w none (no_variable_term h.names h.terms _ w c.word.ensures.term c.requires.value)

pub returns-then-parts : goal.returns-then-parts
returns-then-parts c =
    let h : State = c.args.heap.now in
    let z = c.args.horizon.now in
    new_is_apart z.variables h c.args.to.at c.args.number (c.requires.horizon.uncrossed (c.if-parts.ensures.uncrossed refl))
    (low_at z.variables z.terms h.terms c.args.to.at c.requires.horizon.terms c.requires.horizon.written (c.if-parts.ensures.term refl)) (c.if-parts.ensures.variable refl)
