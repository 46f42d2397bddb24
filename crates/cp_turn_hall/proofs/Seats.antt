-- A seat that has asked an object.
use Rattle.std.proofs.Common.{◌≡◌, ◌≢◌, ℕ, ◌<◌, List, ◌++◌, length, sym, ◌∙◌, ap, subst, Some}
use Rattle.std.specs.Prelude.{◌^◌, ◌-◌, slice_get, slice_set}
use Rattle.std.proofs.lemmas.Option.{slice_get_within}
use Rattle.cp_call.specs.declared.call.Call.{Call}
use Rattle.cp_call.specs.declared.call.Entry.{Entry}
use Rattle.cp_call.specs.declared.asked.Asked.{Asked}
use Rattle.cp_call.specs.Sound.{Object}
use Rattle.std.specs.Prelude.{Option}
use Rattle.cp_call.specs.Asker.{looked_after, IsFullBy, IsStill}
use Rattle.cp_turn.specs.Passes.{TurnstileView}
use Rattle.cp_hall.specs.declared.hall.HallRow.{HallRow}
use Rattle.cp_hall.specs.Hall.{hall_object, objects_of}
use Rattle.cp_turn_hall.specs.declared.pass.ObjectPass.{ObjectPass}
use Rattle.cp_turn_hall.specs.Behind.{SeatView, hall_at_start, IsPlaceOf, Serves, seen_at, looked_at}
use Rattle.cp_turn_hall.specs.Turn.{IsTurn, SamePlace, IsPlaceTurn}
use Rattle.cp_turn_hall.proofs.Places.{serves_at, serves_set, place_is, place_here, first_object}
use Rattle.cp_turn_hall.proofs.Turning.{turn_is, others_stay, seen_here}

-- What a call at the object p left of a seat.
pub record HasAsked (p : ℕ) (c : Call) (a : Asked) (ts : List (TurnstileView HallRow)) (n : ℕ) (after : List ObjectPass) (s : SeatView) : Type 0 where
  pub serves : Serves n ts after
  pub turn : IsTurn p c a s (record { turnstiles = ts; number = n; places = after })
  pub looked : looked_at after p ≡ looked_after (2 ^ 64 - 1) a (looked_at s.places p)
  pub full : IsFullBy (slice_get (objects_of (hall_at_start s.turnstiles)) p) (seen_at ts after p) s.number c a
  pub still : IsStill (slice_get (objects_of (hall_at_start s.turnstiles)) p) (seen_at ts after p) s.number c a
  pub others : (q : ℕ) → q ≢ p → SamePlace q s.places after

pub own_place : (n : ℕ) (ts : List (TurnstileView HallRow)) (ps : List ObjectPass) (p : ℕ) (t : TurnstileView HallRow) (x : ObjectPass) → Serves n ts ps → slice_get ts p ≡ Some t → slice_get ps p ≡ Some x
    → IsPlaceOf x.pass.number t x
own_place n ts ps p t x serves e f =
    let h : IsPlaceOf n t x = serves_at n ts ps p t x serves e f in
    subst (λ (k : ℕ). IsPlaceOf k t x) (sym h.number) h

pub has_asked : (n : ℕ) (ts : List (TurnstileView HallRow)) (ps : List ObjectPass) (s : SeatView) (p : ℕ) (c : Call) (a : Asked) (t : TurnstileView HallRow) (x y : ObjectPass)
    → record { turnstiles = ts; number = n; places = ps } ≡ s → Serves n ts ps → slice_get ts p ≡ Some t → slice_get ps p ≡ Some x
    → IsPlaceOf x.pass.number t y → IsPlaceTurn t.base c a x y → HasAsked p c a ts n (slice_set ps p y) s
has_asked n ts ps s p c a t x y view serves e f place turn =
    let num : x.pass.number ≡ n = (serves_at n ts ps p t x serves e f).number in
    let within : p < length ps = slice_get_within ps p x f in
    let o : Option Object = Some (hall_object t.base).object in
    let seen : List Entry = t.base.pred.history ++ y.pass.seen in
    subst (HasAsked p c a ts n (slice_set ps p y)) view (record {
      serves = serves_set n ts ps p t y serves e (subst (λ (k : ℕ). IsPlaceOf k t y) num place);
      turn = turn_is ts n ps p c a t x y e f num turn;
      looked = place_here (λ x. x.looked) 0 ps p y within ∙ turn.looked ∙ ap (looked_after (2 ^ 64 - 1) a) (sym (place_is (λ x. x.looked) 0 ps p x f));
      full = subst (λ (q : Option Object). IsFullBy q (seen_at ts (slice_set ps p y) p) n c a) (sym (first_object ts p t e))
          (subst (λ (l : List Entry). IsFullBy o l n c a) (sym (seen_here ts ps p t y e within)) (subst (λ (k : ℕ). IsFullBy o seen k c a) num turn.full));
      still = subst (λ (q : Option Object). IsStill q (seen_at ts (slice_set ps p y) p) n c a) (sym (first_object ts p t e))
          (subst (λ (l : List Entry). IsStill o l n c a) (sym (seen_here ts ps p t y e within)) (subst (λ (k : ℕ). IsStill o seen k c a) num turn.still));
      others = others_stay ps p y;
    })
