use Rattle.std.proofs.Common.{◌+◌, ◌-◌, [], ◌∷◌, ◌++◌, sym, ◌∙◌, ap, append_assoc, arith}
use Rattle.cp_heap.specs.Walk.{places_from}
use Rattle.cp_heap.proofs.WalkLaws.{places_step}
use Rattle.cp_heap.proofs.heap.walk.push_places.Goals as goal

pub places-preserved : goal.places-preserved
places-preserved c =
    let le = c.places.invariant.0 in
    let some = c.places-test.true in (
      omega arith,
      ap (λ items. items ++ places_from c.args.first (c.places.left - 1)) c.in_ok-push.ensures.items
          ∙ append_assoc c.places.stack.items ((c.args.first + (c.places.left - 1)) ∷ []) (places_from c.args.first (c.places.left - 1))
          ∙ ap (λ ps. c.places.stack.items ++ ps) (sym (places_step c.args.first c.places.left some))
          ∙ c.places.invariant.1,
    )
