use Rattle.std.proofs.Common.{◌≡◌, [], ◌∷◌, ◌++◌, length, cond, refl, sym, ◌∙◌, ap, Some}
use Rattle.std.specs.Prelude.{slice_get}
use Rattle.std.proofs.lemmas.Option.{slice_get_read}
use Rattle.cp_schedule.specs.Awake.{awake_below, is_parked_place}
use Rattle.cp_schedule.proofs.Choosing.{awake_next}
use Rattle.cp_schedule.proofs.seed.awake_places.Goals as goal

pub loop-place-preserved : goal.loop-place-preserved
loop-place-preserved g c =
    let there : slice_get c.args.shells.now c.loop-place.place ≡ Some c.index-shells-place.result = slice_get_read c.args.shells.now (length c.args.shells.now) c.loop-place.place c.index-shells-place.result refl c.loop-place-test.true c.index-shells-place.is in
    c.in_ok-push_unless.ensures
    ∙ (ap (λ xs. xs ++ cond c.in_ok-parked.parked [] (c.loop-place.place ∷ [])) c.loop-place.invariant
    ∙ ap (λ b. awake_below c.args.hall.now c.args.shells.now c.loop-place.place ++ cond b [] (c.loop-place.place ∷ [])) (c.in_ok-parked.ensures ∙ ap (λ o. is_parked_place c.args.hall.now o) (sym there))
    ∙ sym (awake_next c.args.hall.now c.args.shells.now c.loop-place.place))
