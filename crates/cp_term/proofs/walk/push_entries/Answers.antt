use Rattle.std.proofs.Common.{◌≡◌, suc, ◌+◌, ◌-◌, [], ◌∷◌, ◌++◌, sym, ◌∙◌, ap, arith, append_assoc}
use Rattle.cp_term.specs.declared.walk.Visit.TheVariants.{Enter}
use Rattle.cp_term.specs.TermGraph.{next_of}
use Rattle.cp_term.specs.Walk.{entries}
use Rattle.cp_term.proofs.walk.push_entries.Goals as goal

pub loop-argument-preserved : goal.loop-argument-preserved
loop-argument-preserved c =
    let ends = c.args.ends.now in
    let place = c.loop-argument.place in
    let left = c.args.count - (c.loop-argument._argument + 1) in
    let one : c.args.count - c.loop-argument._argument ≡ suc left = omega arith in
    (λ i. c.in_ok-push.ensures.items i ++ entries ends left (c.next_place-place.ensures i))
    ∙ append_assoc c.loop-argument.visits.items (Enter place ∷ []) (entries ends left (next_of ends place))
    ∙ sym (ap (λ k. c.loop-argument.visits.items ++ entries ends k place) one)
    ∙ c.loop-argument.invariant
