-- What one turn at a shared object does.
use Rattle.std.specs.Prelude.{ℕ, ◌≡◌, ◌+◌, ◌^◌, ◌-◌, min, List, [], ◌++◌, Some, IfSome, slice_get}
use Rattle.cp_call.specs.declared.call.Call.{Call}
use Rattle.cp_call.specs.declared.call.Entry.{Entry}
use Rattle.cp_call.specs.declared.asked.Asked.{Asked}
use Rattle.cp_call.specs.Sound.{Object, own_entries}
use Rattle.cp_call.specs.History.{Legal}
use Rattle.cp_call.specs.Asker.{entry_added, looked_after, IsFullBy, IsStill}
use Rattle.cp_list.specs.Lists.{IsPrefix}
use Rattle.cp_hall.specs.declared.hall.HallRow.{HallRow}
use Rattle.cp_hall.specs.Hall.{hall_object, with_entries, objects_of, IsAnswered}
use Rattle.cp_turn_hall.specs.declared.pass.ObjectPass.{ObjectPass}
use Rattle.cp_turn_hall.specs.Behind.{SeatView, hall_at_start, at_place, seen_at, looked_at, turns_at}

-- The caller of a seat took a turn at the object p, made this call there and was answered so. `found` is the history that
-- the turn found: it begins with all that the caller had seen, and has no more entries of the caller. The answer is the one
-- that the object gives after this history, and the caller has then seen just this history and its own entry.
pub record IsTurn (p : ℕ) (c : Call) (a : Asked) (before after : SeatView) : Type 0 where
  pub found : List Entry
  pub begins : IsPrefix (seen_at before.turnstiles before.places p) found
  pub own : own_entries before.number found ≡ own_entries before.number (seen_at before.turnstiles before.places p)
  pub answer : IfSome (slice_get (objects_of (hall_at_start before.turnstiles)) p) (λ (o : Object). IsAnswered before.number c a (record { object = o; history = found }))
  pub seen : seen_at after.turnstiles after.places p ≡ found ++ entry_added before.number c a
  pub legal : IfSome (slice_get (objects_of (hall_at_start before.turnstiles)) p) (λ (o : Object). Legal o.kind o.opening (seen_at after.turnstiles after.places p))
  pub turns : turns_at after.places p ≡ min (turns_at before.places p + 1) (2 ^ 64 - 1)

-- what is told of the object p stays as it was
pub record SamePlace (p : ℕ) (before after : List ObjectPass) : Type 0 where
  pub seen : at_place (λ x. x.pass.seen) [] after p ≡ at_place (λ x. x.pass.seen) [] before p
  pub looked : looked_at after p ≡ looked_at before p
  pub turns : turns_at after p ≡ turns_at before p

-- The same of one object, which stood as `start` when it was put behind its turnstile, and of the caller's pass of it.
-- `found` are the entries since then.
pub record IsPlaceTurn (start : HallRow) (c : Call) (a : Asked) (before after : ObjectPass) : Type 0 where
  pub number : after.pass.number ≡ before.pass.number
  pub found : List Entry
  pub begins : IsPrefix before.pass.seen found
  pub own : own_entries before.pass.number found ≡ own_entries before.pass.number before.pass.seen
  pub answer : IsAnswered before.pass.number c a (with_entries found (hall_object start))
  pub seen : after.pass.seen ≡ found ++ entry_added before.pass.number c a
  pub legal : Legal start.pred.kind start.pred.opening (start.pred.history ++ after.pass.seen)
  pub full : IsFullBy (Some (hall_object start).object) (start.pred.history ++ after.pass.seen) before.pass.number c a
  pub still : IsStill (Some (hall_object start).object) (start.pred.history ++ after.pass.seen) before.pass.number c a
  pub turns : after.pass.turns ≡ min (before.pass.turns + 1) (2 ^ 64 - 1)
  pub looked : after.looked ≡ looked_after (2 ^ 64 - 1) a before.looked
