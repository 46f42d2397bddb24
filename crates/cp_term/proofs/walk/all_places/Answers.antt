use Rattle.std.proofs.Common.{◌≡◌, suc, ◌+◌, ◌-◌, [], ◌∷◌, ◌++◌, sym, ◌∙◌, ap, arith, append_assoc}
use Rattle.cp_term.specs.declared.walk.Visit.TheVariants.{Enter}
use Rattle.cp_term.specs.Walk.{all_entries}
use Rattle.cp_term.proofs.walk.all_places.Goals as goal

pub loop-place-preserved : goal.loop-place-preserved
loop-place-preserved c =
    let place = c.loop-place.place in
    let left = c.args.count - (place + 1) in
    let one : c.args.count - place ≡ suc left = omega arith in
    ap (λ xs. xs ++ all_entries (place + 1) left) c.in_ok-push.ensures.items
    ∙ append_assoc c.loop-place.visits.items (Enter place ∷ []) (all_entries (place + 1) left)
    ∙ sym (ap (λ k. c.loop-place.visits.items ++ all_entries place k) one)
    ∙ c.loop-place.invariant
