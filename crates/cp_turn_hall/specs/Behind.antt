-- Shared objects behind turnstiles, and the passes of their callers.
use Rattle.std.specs.Prelude.{ℕ, zero, suc, ◌≡◌, ◌==◌, ◌+◌, ◌<◌, cond, List, [], ◌∷◌, ◌++◌, map, length, slice_index_or}
use Rattle.cp_call.specs.declared.call.Entry.{Entry}
use Rattle.cp_call.specs.Sound.{own_entries}
use Rattle.cp_list.specs.Lists.{IsPrefix}
use Rattle.cp_turn.specs.Passes.{TurnstileView, IsOutside, fresh}
use Rattle.cp_hall.specs.declared.hall.HallRow.{HallRow}
use Rattle.cp_hall.specs.Hall.{HallObject, hall_object, history_at}
use Rattle.cp_turn_hall.specs.declared.pass.ObjectPass.{ObjectPass}

-- The passes of one caller, one for each object in their order.
pub record HallPassView : Type 0 where
  pub number : ℕ
  pub places : List ObjectPass

-- A caller at a hall: the turnstiles of the hall, the caller's number, and its passes.
pub record SeatView : Type 0 where
  pub turnstiles : List (TurnstileView HallRow)
  pub number : ℕ
  pub places : List ObjectPass

-- the objects as they stood when they were put behind their turnstiles
abbrev pub hall_at_start : List (TurnstileView HallRow) → List HallObject
hall_at_start turnstiles = map (λ (t : TurnstileView HallRow). hall_object t.base) turnstiles

-- A caller's pass of a turnstile: it is outside and has the caller's number, and what it tells as the caller's own entries
-- are the caller's in the list that it has seen.
pub record IsPlaceOf (n : ℕ) (t : TurnstileView HallRow) (x : ObjectPass) : Type 0 where
  pub outside : IsOutside t x.pass
  pub number : x.pass.number ≡ n
  pub mine : x.pass.mine ≡ own_entries n x.pass.seen

-- a pass of each turnstile, in their order, all of the caller with this number
abbrev pub Serves : ℕ → List (TurnstileView HallRow) → List ObjectPass → Type 0
Serves n [] [] = Unit {0}
Serves n [] (p ∷ ps) = ⊥
Serves n (t ∷ ts) [] = ⊥
Serves n (t ∷ ts) (p ∷ ps) = IsPlaceOf n t p × Serves n ts ps

-- these are a caller's passes of the objects behind these turnstiles, and the caller is inside of none
abbrev pub IsPassOf : List (TurnstileView HallRow) → HallPassView → Type 0
IsPassOf turnstiles pass = Serves pass.number turnstiles pass.places

-- what f tells of the pass of the object p, if there is one
abbrev pub at_place : {A : Type 0} → (ObjectPass → A) → A → List ObjectPass → ℕ → A
at_place f none [] p = none
at_place f none (x ∷ xs) zero = f x
at_place f none (x ∷ xs) (suc p) = at_place f none xs p

-- What the pass of a caller has seen of the object p: the entries that it had when it was put behind its turnstile, and then
-- those that the pass tells. Of another caller it tells none.
abbrev pub seen_at : List (TurnstileView HallRow) → List ObjectPass → ℕ → List Entry
seen_at turnstiles places p = history_at (hall_at_start turnstiles) p ++ at_place (λ x. x.pass.seen) [] places p

abbrev pub seen_for : SeatView → ℕ → ℕ → List Entry
seen_for s n p = cond (n == s.number) (seen_at s.turnstiles s.places p) (history_at (hall_at_start s.turnstiles) p)

-- how often the caller has looked in vain at the object p since it was parked there; how many turns it has taken there
abbrev pub looked_at : List ObjectPass → ℕ → ℕ
looked_at places p = at_place (λ x. x.looked) 0 places p

abbrev pub looked_for : SeatView → ℕ → ℕ → ℕ
looked_for s n p = cond (n == s.number) (looked_at s.places p) 0

abbrev pub turns_at : List ObjectPass → ℕ → ℕ
turns_at places p = at_place (λ x. x.pass.turns) 0 places p

-- the pass of the caller n as it is made
abbrev pub new_pass : List (TurnstileView HallRow) → ℕ → HallPassView
new_pass turnstiles n = record { number = n; places = map (λ (t : TurnstileView HallRow). record { pass = fresh t n; looked = 0 }) turnstiles }

-- the passes of the callers 1, 2, .. as they are made
abbrev pub AreNew : List (TurnstileView HallRow) → List HallPassView → Type 0
AreNew turnstiles passes = (k : ℕ) (d : HallPassView) → k < length passes → slice_index_or passes k d ≡ new_pass turnstiles (k + 1)

-- What a pass has seen is kept by a hall: each history begins with it, and has no more entries of the pass's caller.
abbrev pub IsSeenIn : List HallObject → List (TurnstileView HallRow) → HallPassView → Type 0
IsSeenIn hall turnstiles pass = (p : ℕ) → IsPrefix (seen_at turnstiles pass.places p) (history_at hall p)
    × (own_entries pass.number (history_at hall p) ≡ own_entries pass.number (seen_at turnstiles pass.places p))
