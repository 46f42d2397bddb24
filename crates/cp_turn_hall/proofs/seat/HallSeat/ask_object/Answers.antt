use Rattle.std.proofs.Common.{◌≡◌, ◌<◌, length, ap, refl, Some, arith}
use Rattle.std.specs.Prelude.{slice_get, slice_set}
use Rattle.std.proofs.lemmas.Option.{slice_get_read}
use Rattle.cp_turn_hall.specs.Behind.{SeatView}
use Rattle.cp_turn_hall.proofs.Places.{serves_length}
use Rattle.cp_turn_hall.proofs.Seats.{HasAsked, own_place, has_asked}
use Rattle.cp_turn_hall.proofs.seat.HallSeat.ask_object.Goals as goal
use Rattle.cp_turn_hall.proofs.seat.HallSeat.ask_object.Given.{Over}

within : (g : Over) (c : goal.After-index_mut-place g) → c.args.object < length c.self.inside.places.items
within g c = omega (arith, serves_length c.self.inside.number c.self.inside.hall.now c.self.inside.places.items c.self.invariant, ap (λ (s : SeatView). length s.turnstiles) c.self.view_is, c.requires)

was : (g : Over) (c : goal.After-index_mut-place g) → slice_get c.self.inside.places.items c.args.object ≡ Some c.index_mut-place.result.now
was g c = slice_get_read c.self.inside.places.items (length c.self.inside.places.items) c.args.object c.index_mut-place.result.now refl (within g c) c.index_mut-place.ensures.value

pub index_mut-place-requires : goal.index_mut-place-requires
index_mut-place-requires g c =
    omega (arith, serves_length c.self.inside.number c.self.inside.hall.now c.self.inside.places.items c.self.invariant, ap (λ (s : SeatView). length s.turnstiles) c.self.view_is, c.self.inside.places.ok.0, c.requires)

pub take_turn-requires : goal.take_turn-requires
take_turn-requires g c =
    own_place c.self.inside.number c.self.inside.hall.now c.self.inside.places.items c.args.object c.turnstile-turnstile.result.now c.index_mut-place.result.now c.self.invariant c.turnstile-turnstile.ensures (was g c)

told : (g : Over) (c : goal.After-self-1 g)
    → HasAsked c.args.object c.args.call.now c.take_turn.result c.self.inside.hall.now c.self.inside.number (slice_set c.self.inside.places.items c.args.object c.take_turn.new.place) c.args.self.now
told g c =
    let f : slice_get c.self.inside.places.items c.args.object ≡ Some c.index_mut-place.result.now =
    slice_get_read c.self.inside.places.items (length c.self.inside.places.items) c.args.object c.index_mut-place.result.now refl
    (omega (arith, serves_length c.self.inside.number c.self.inside.hall.now c.self.inside.places.items c.self.invariant, ap (λ (s : SeatView). length s.turnstiles) c.self.view_is, c.requires)) c.index_mut-place.ensures.value in
    has_asked c.self.inside.number c.self.inside.hall.now c.self.inside.places.items c.args.self.now c.args.object c.args.call.now c.take_turn.result c.turnstile-turnstile.result.now c.index_mut-place.result.now c.take_turn.new.place
    c.self.view_is c.self.invariant c.turnstile-turnstile.ensures f c.take_turn.ensures.place c.take_turn.ensures.turn

pub invariant_of-self : goal.invariant_of-self
invariant_of-self g c = (told g c).serves

pub returns-clause-turn : goal.returns-clause-turn
returns-clause-turn g c = (told g c).turn

pub returns-clause-looked : goal.returns-clause-looked
returns-clause-looked g c = (told g c).looked

pub returns-clause-full : goal.returns-clause-full
returns-clause-full g c = (told g c).full

pub returns-clause-still : goal.returns-clause-still
returns-clause-still g c = (told g c).still

pub returns-clause-others : goal.returns-clause-others
returns-clause-others g c = (told g c).others
