use Rattle.std.proofs.Common.{◌≡◌, ℕ, ◌<◌, ◌%◌, List, [], length, refl, sym, ◌∙◌, ap, subst, Some}
use Rattle.std.specs.Prelude.{slice_get}
use Rattle.std.proofs.lemmas.Option.{slice_get_read}
use Rattle.std.proofs.lemmas.Nat.{mod_below}
use Rattle.cp_schedule.specs.Awake.{awake_below}
use Rattle.cp_schedule.proofs.Choosing.{none_awake, awake_within, nothing, something}
use Rattle.cp_hall.specs.Hall.{objects_of}
use Rattle.cp_schedule.specs.Record.{RecordLeads, record_now, workers_setup}
use Rattle.cp_schedule.specs.Turns.{TakesNextTurn}
use Rattle.cp_schedule.proofs.Seeding.{takes_next}
use Rattle.cp_schedule.proofs.Standing.{awake_places_same}
use Rattle.cp_schedule.proofs.seed.take_drawn_turn.Goals as goal

pub awake_places-requires : goal.awake_places-requires
awake_places-requires g c i s h = (c.requires.ready.driven.running i s (subst (λ xs. slice_get xs i ≡ Some s) c.deref.ensures.value h)).agrees.known

pub returns-then-is_empty-clause-parked : goal.returns-then-is_empty-clause-parked
returns-then-is_empty-clause-parked g c t =
    let none : c.in_ok-awake.awake.items ≡ [] = nothing c.in_ok-awake.awake.items c.in_ok-awake.awake.len c.is_empty.result c.in_ok-awake.awake.ok.0 c.is_empty.ensures c.if-is_empty.true in
    none_awake c.args.hall.now c.args.shells.now.items (subst (λ xs. awake_below c.args.hall.now xs (length xs) ≡ []) c.deref.ensures.value (sym c.in_ok-awake.ensures ∙ none))

pub take_turn-requires-clause-within : goal.take_turn-requires-clause-within
take_turn-requires-clause-within g c =
    let some : 0 < c.in_ok-awake.awake.len = something c.in_ok-awake.awake.len c.is_empty.result c.is_empty.ensures c.if-is_empty.false in
    let within : c.next_word.result % c.in_ok-awake.awake.len < c.in_ok-awake.awake.len = mod_below c.next_word.result c.in_ok-awake.awake.len some in
    let inside : c.next_word.result % c.len.result < c.in_ok-awake.awake.len = subst (λ n. c.next_word.result % n < c.in_ok-awake.awake.len) (sym c.len.ensures) within in
    let there : slice_get c.in_ok-awake.awake.items (c.next_word.result % c.len.result) ≡ Some c.index-place.result.now = slice_get_read c.in_ok-awake.awake.items c.in_ok-awake.awake.len (c.next_word.result % c.len.result) c.index-place.result.now c.in_ok-awake.awake.ok.0 inside c.index-place.ensures in
    let listed : slice_get (awake_below c.args.hall.now c.args.shells.now.items (length c.args.shells.now.items)) (c.next_word.result % c.len.result) ≡ Some c.index-place.result.now
    = subst (λ xs. slice_get (awake_below c.args.hall.now xs (length xs)) (c.next_word.result % c.len.result) ≡ Some c.index-place.result.now) c.deref.ensures.value
    (subst (λ ps. slice_get ps (c.next_word.result % c.len.result) ≡ Some c.index-place.result.now) c.in_ok-awake.ensures there) in
    subst (λ n. c.index-place.result.now < n) (sym c.args.shells.now.ok.0) (awake_within c.args.hall.now c.args.shells.now.items (length c.args.shells.now.items) (c.next_word.result % c.len.result) c.index-place.result.now listed)

pub returns-then-is_empty-clause-ended : goal.returns-then-is_empty-clause-ended
returns-then-is_empty-clause-ended g c t k steps d =
    let none : c.in_ok-awake.awake.items ≡ [] = nothing c.in_ok-awake.awake.items c.in_ok-awake.awake.len c.is_empty.result c.in_ok-awake.awake.ok.0 c.is_empty.ensures c.if-is_empty.true in (
      awake_places_same g.M.Machine.code g.M.Rule.Asks.asks k c.args.shells.now.items c.args.hall.now c.args.port.now.entries d c.state_invariant.ensures steps
          ∙ subst (λ xs. awake_below c.args.hall.now xs (length xs) ≡ []) c.deref.ensures.value (sym c.in_ok-awake.ensures ∙ none),
      refl,
    )

pub returns-clause-turn : goal.returns-clause-turn
returns-clause-turn g c f = (ap (λ p. p.1) c.next_word.ensures, drawn)
  where
    some : 0 < c.in_ok-awake.awake.len
    some = something c.in_ok-awake.awake.len c.is_empty.result c.is_empty.ensures c.if-is_empty.false

    inside : c.next_word.result % c.len.result < c.in_ok-awake.awake.len
    inside = subst (λ n. c.next_word.result % n < c.in_ok-awake.awake.len) (sym c.len.ensures) (mod_below c.next_word.result c.in_ok-awake.awake.len some)

    places : List ℕ
    places = awake_below c.args.hall.now c.args.shells.now.items (length c.args.shells.now.items)

    listed : c.in_ok-awake.awake.items ≡ places
    listed = subst (λ xs. c.in_ok-awake.awake.items ≡ awake_below c.args.hall.now xs (length xs)) c.deref.ensures.value c.in_ok-awake.ensures

    there : slice_get places (c.next_word.result % c.len.result) ≡ Some c.index-place.result.now
    there = subst (λ ps. slice_get ps (c.next_word.result % c.len.result) ≡ Some c.index-place.result.now) listed
        (slice_get_read c.in_ok-awake.awake.items c.in_ok-awake.awake.len (c.next_word.result % c.len.result) c.index-place.result.now c.in_ok-awake.awake.ok.0 inside c.index-place.ensures)

    drawn : RecordLeads g.M.Machine.code g.M.Rule.Asks.asks c.args.shells.now.items c.take_turn.new.shells.items c.args.hall.now c.take_turn.new.hall c.args.port.now.entries c.take_turn.new.port.entries (λ s before after. TakesNextTurn s c.args.words.now before after)
    drawn k steps d = takes_next (workers_setup (g.M.Rule.Asks.asks k) (objects_of c.args.hall.now)) c.args.words.now c.next_word.result c.len.result c.index-place.result.now
        (record_now steps c.args.shells.now.items c.args.hall.now c.args.port.now.entries) (record_now steps c.take_turn.new.shells.items c.take_turn.new.hall c.take_turn.new.port.entries) places
        (ap (λ p. p.0) c.next_word.ensures) (awake_places_same g.M.Machine.code g.M.Rule.Asks.asks k c.args.shells.now.items c.args.hall.now c.args.port.now.entries d c.state_invariant.ensures steps)
        (c.len.ensures ∙ (c.in_ok-awake.awake.ok.0 ∙ ap (λ xs. length xs) listed)) there (λ awake. c.in_ok-take_turn.ensures.turn k steps d awake)
