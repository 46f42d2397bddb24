use Rattle.std.proofs.Common.{◌≡◌, suc, ◌+◌, ◌-◌, [], ◌∷◌, ◌++◌, sym, ◌∙◌, ap, arith, append_assoc}
use Rattle.cp_term.specs.declared.classes.Pair.{Pair}
use Rattle.cp_term.specs.TermGraph.{next_of}
use Rattle.cp_term.specs.Classes.{pairs_of}
use Rattle.cp_term.proofs.classes.push_pairs.Goals as goal

pub loop-argument-preserved : goal.loop-argument-preserved
loop-argument-preserved c =
    let ends = c.args.ends.now in
    let x = c.loop-argument.left in
    let y = c.loop-argument.right in
    let pair : Pair = record { left = x; right = y } in
    let left = c.args.count - (c.loop-argument._argument + 1) in
    let one : c.args.count - c.loop-argument._argument ≡ suc left = omega arith in
    (λ i. c.in_ok-push.ensures.items i ++ pairs_of ends left (c.next_place-left.ensures i) (c.next_place-right.ensures i))
    ∙ append_assoc c.loop-argument.pairs.items (pair ∷ []) (pairs_of ends left (next_of ends x) (next_of ends y))
    ∙ sym (ap (λ k. c.loop-argument.pairs.items ++ pairs_of ends k x y) one)
    ∙ c.loop-argument.invariant
