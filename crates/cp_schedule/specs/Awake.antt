-- Which workers are parked, by what their events and the objects tell.
use Rattle.std.specs.Prelude.{ℕ, zero, suc, ◌≡◌, Bool, true, false, cond, List, [], ◌∷◌, ◌++◌, Option, Some, None, slice_get}
use Rattle.std.specs.List.{list_all}
use Rattle.cp_call.specs.declared.item.Item.{Item}
use Rattle.cp_call.specs.Object.{is_parked}
use Rattle.cp_call.specs.Sound.{is_of_objects}
use Rattle.cp_shell.specs.Parked.{parked_object}
use Rattle.cp_shell.specs.Shell.{ShellView}
use Rattle.cp_hall.specs.Hall.{HallObject, state_now}

-- whether an object has a caller parked
abbrev pub is_parked_in : Option HallObject → ℕ → Bool
is_parked_in None n = false
is_parked_in (Some o) n = is_parked (state_now o) n

abbrev pub is_parked_at : List HallObject → ℕ → Option ℕ → Bool
is_parked_at hall n None = false
is_parked_at hall n (Some p) = is_parked_in (slice_get hall p) n

-- whether the object where the last event of worker n has left it parked has it parked still: it was not woken since
abbrev pub is_parked_now : List HallObject → ℕ → List Item → Bool
is_parked_now hall n items = is_parked_at hall n (parked_object items)

-- the events name none but the first so many objects
abbrev pub KnowsObjects : ℕ → List Item → Type 0
KnowsObjects count items = list_all (is_of_objects count) items ≡ true

-- every worker is parked
abbrev pub AllParked : {M : Type 0} → List HallObject → List (ShellView M) → Type 0
AllParked {M} hall shells = (i : ℕ) (s : ShellView M) → slice_get shells i ≡ Some s → is_parked_now hall s.number s.items ≡ true

-- whether the worker of a shell is parked; where there is no shell nobody is awake
abbrev pub is_parked_place : {M : Type 0} → List HallObject → Option (ShellView M) → Bool
is_parked_place hall None = true
is_parked_place hall (Some s) = is_parked_now hall s.number s.items

-- the places of the workers that are not parked, of those among the first so many, in order
abbrev pub awake_below : {M : Type 0} → List HallObject → List (ShellView M) → ℕ → List ℕ
awake_below hall shells zero = []
awake_below hall shells (suc n) = awake_below hall shells n ++ cond (is_parked_place hall (slice_get shells n)) [] (n ∷ [])

-- the events of each shell name none but the first so many objects
abbrev pub AllKnow : {M : Type 0} → ℕ → List (ShellView M) → Type 0
AllKnow {M} count shells = (i : ℕ) (s : ShellView M) → slice_get shells i ≡ Some s → KnowsObjects count s.items
