-- The workers that are not parked: where there are none all are parked, and each is one of the shells.
use Rattle.std.proofs.Common.{◌≡◌, ◌≢◌, ◌⊎◌, inl, inr, ℕ, zero, suc, ◌+◌, ◌<◌, ◌==◌, List, [], ◌∷◌, ◌++◌, length, refl, sym, ◌∙◌, ap, subst, Bool, true, false, cond, Some, arith}
use Rattle.std.specs.Prelude.{slice_get, MatchBool}
use Rattle.std.proofs.lemmas.Option.{slice_get_within}
use Rattle.std.proofs.lemmas.Bool.Decides.{eqb_tells}
use Rattle.cp_shell.specs.Shell.{ShellView}
use Rattle.cp_hall.specs.Hall.{HallObject}
use Rattle.cp_schedule.specs.Awake.{AllParked, is_parked_place, awake_below}

append_none : {X : Type 0} (xs ys : List X) → xs ++ ys ≡ [] → (xs ≡ []) × (ys ≡ [])
append_none [] ys h = (refl, h)
append_none (x ∷ xs) ys h = let w : ⊥ = cc in absurd w

pub split_get : {X : Type 0} (xs ys : List X) (k : ℕ) (x : X) → slice_get (xs ++ ys) k ≡ Some x → (slice_get xs k ≡ Some x) ⊎ ((m : ℕ) × (slice_get ys m ≡ Some x))
split_get [] ys k x h = inr (k, h)
split_get (y ∷ xs) ys zero x h = inl h
split_get (y ∷ xs) ys (suc k) x h = split_get xs ys k x h

one_get : (b : Bool) (i m p : ℕ) → slice_get (cond b [] (i ∷ [])) m ≡ Some p → p ≡ i
one_get true i m p h = let w : ⊥ = cc in absurd w
one_get false i zero p h = cc
one_get false i (suc m) p h = let w : ⊥ = cc in absurd w

none_parked : (b : Bool) (i : ℕ) → cond b [] (i ∷ []) ≡ [] → b ≡ true
none_parked true i h = refl
none_parked false i h = let w : ⊥ = cc in absurd w

-- a worker that is not parked is one of those below
pub awake_within : {M : Type 0} (hall : List HallObject) (shells : List (ShellView M)) (n k p : ℕ) → slice_get (awake_below hall shells n) k ≡ Some p → p < n
awake_within hall shells zero k p h = let w : ⊥ = cc in absurd w
awake_within hall shells (suc n) k p h = elim (split_get (awake_below hall shells n) (cond (is_parked_place hall (slice_get shells n)) [] (n ∷ [])) k p h) [
  | inl a ↦ (let z : p < n = awake_within hall shells n k p a in omega (arith, z))
  | inr b ↦ (let z : p ≡ n = one_get (is_parked_place hall (slice_get shells n)) n b.0 p b.1 in omega (arith, z))
]

below_parked : {M : Type 0} (hall : List HallObject) (shells : List (ShellView M)) (n : ℕ) → awake_below hall shells n ≡ [] → (i : ℕ) → i < n → is_parked_place hall (slice_get shells i) ≡ true
below_parked hall shells zero none i h = absurd (let z : ⊥ = omega arith in z)
below_parked hall shells (suc n) none i h =
    let parts = append_none (awake_below hall shells n) (cond (is_parked_place hall (slice_get shells n)) [] (n ∷ [])) none in
    elim (eqb_tells i n) [
      | inl same ↦ subst (λ m. is_parked_place hall (slice_get shells m) ≡ true) (sym same.1) (none_parked (is_parked_place hall (slice_get shells n)) n parts.1)
      | inr apart ↦ below_parked hall shells n parts.0 i (less i n h apart.1)
    ]
  where
    less : (i n : ℕ) → i < suc n → (i ≡ n → ⊥) → i < n
    less i n h d = omega (arith, h, d)

-- where none is awake all are parked
pub none_awake : {M : Type 0} (hall : List HallObject) (shells : List (ShellView M)) → awake_below hall shells (length shells) ≡ [] → AllParked hall shells
none_awake hall shells none i s h = subst (λ o. is_parked_place hall o ≡ true) h (below_parked hall shells (length shells) none i (slice_get_within shells i s h))

-- a list that has no items
pub nothing : {X : Type 0} (xs : List X) (n : ℕ) (b : Bool) → n ≡ length xs → b ≡ (n == 0) → b ≡ true → xs ≡ []
nothing [] n b l e t = refl
nothing (x ∷ xs) n b l e t = elim (eqb_tells n 0) [
  | inl s ↦ absurd (let z : ⊥ = omega (arith, l, s.1) in z)
  | inr d ↦ (let w : ⊥ = cc (d.0, e, t) in absurd w)
]

pub something : (n : ℕ) (b : Bool) → b ≡ (n == 0) → b ≡ false → 0 < n
something zero b e f = let w : ⊥ = cc (e, f) in absurd w
something (suc n) b e f = omega arith

-- one worker more
pub awake_next : {M : Type 0} (hall : List HallObject) (shells : List (ShellView M)) (n : ℕ) → awake_below hall shells (n + 1) ≡ awake_below hall shells n ++ cond (is_parked_place hall (slice_get shells n)) [] (n ∷ [])
awake_next hall shells n = ap (λ m. awake_below hall shells m) next
  where
    next : n + 1 ≡ suc n
    next = omega arith

-- whether a list is empty
pub is_none_left : {X : Type 0} (xs : List X) (n : ℕ) (b : Bool) → n ≡ length xs → b ≡ (n == 0) → MatchBool b (xs ≡ []) (xs ≢ [])
is_none_left {X} xs n b l e = by b refl
  where
    by : (v : Bool) → b ≡ v → MatchBool v (xs ≡ []) (xs ≢ [])
    by true t = nothing xs n b l e t
    by false f = λ none. (let z : ⊥ = omega (arith, something n b e f, l ∙ ap (λ ys. length ys) none) in z)
