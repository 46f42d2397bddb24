use Rattle.std.proofs.Common.{◌≡◌, ◌∙◌, ◌+◌, [], ◌∷◌, ◌++◌, map, take, sym, ap, subst}
use Rattle.std.proofs.lemmas.List.{take_more, map-append}
use Rattle.cp_heap.specs.State.{AreRefs, terms_at}
use Rattle.cp_goal.specs.Lists.{code_term}
use Rattle.cp_lists.proofs.lemmas.Places.{live-push}
use Rattle.cp_lists.proofs.lemmas.Growth.{gains-trans, live-stays, one_more}
use Rattle.cp_lists.proofs.building.codes_of.Goals as goal

pub characters-preserved : goal.characters-preserved
characters-preserved c =
    let now = c.characters.heap in
    let new = c.code.new.heap in
    let r = c.in_ok-code.field-0 in
    let i = c.characters.character-index in
    let cs = c.args.characters.now in
    let grown = sym c.in_ok-push.ensures.ok in
    let gains = c.in_ok-code.ensures.gains in
    record {
      gains = gains-trans c.args.heap.now now new c.characters.invariant.gains gains;
      live = subst (AreRefs new) grown (live-push new c.characters.codes r (live-stays now new gains c.characters.codes c.characters.invariant.live) c.in_ok-code.ensures.live);
      terms = subst (λ refs. terms_at new refs ≡ map code_term (take (i + 1) cs)) grown
          (one_more now new c.characters.codes r (map code_term (take i cs)) (code_term c.character-item.result) gains c.characters.invariant.live c.characters.invariant.terms c.in_ok-code.ensures.term
          ∙ sym (map-append code_term (take i cs) (c.character-item.result ∷ []))
          ∙ ap (map code_term) (ap (λ x. take i cs ++ x ∷ []) c.character-item.is ∙ sym (take_more cs i c.character-item.result c.characters-test.true)));
    }
