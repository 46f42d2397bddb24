use Rattle.std.proofs.Common.{◌+◌, ◌-◌, [], ◌∷◌, ◌++◌, sym, ◌∙◌, ap, append_assoc, arith}
use Rattle.cp_unify.specs.Pairs.{pairs_from}
use Rattle.cp_unify.proofs.StackLaws.{pairs_step}
use Rattle.cp_unify.proofs.pair.push_pairs.Goals as goal

pub pairs-preserved : goal.pairs-preserved
pairs-preserved c =
    let le = c.pairs.invariant.0 in
    let some = c.pairs-test.true in (
      omega arith,
      ap (λ items. items ++ pairs_from c.args.left c.args.right (c.pairs.rest - 1)) c.in_ok-push.ensures.items
          ∙ append_assoc c.pairs.pairs.items ((record { left = record { at = c.args.left + (c.pairs.rest - 1) }; right = record { at = c.args.right + (c.pairs.rest - 1) } }) ∷ []) (pairs_from c.args.left c.args.right (c.pairs.rest - 1))
          ∙ ap (λ ps. c.pairs.pairs.items ++ ps) (sym (pairs_step c.args.left c.args.right c.pairs.rest some))
          ∙ c.pairs.invariant.1,
    )
