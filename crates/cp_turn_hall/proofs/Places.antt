-- The passes of one caller, one for each object.
use Rattle.std.proofs.Common.{◌≡◌, ◌≢◌, ℕ, zero, suc, ◌<◌, ◌≤◌, List, [], ◌∷◌, length, refl, sym, ap, subst, Some, arith}
use Rattle.std.specs.Prelude.{slice_get, slice_set}
use Rattle.cp_turn.specs.Passes.{TurnstileView}
use Rattle.cp_hall.specs.declared.hall.HallRow.{HallRow}
use Rattle.cp_hall.specs.Hall.{HallObject, hall_object, objects_of, history_of, history_at}
use Rattle.cp_turn_hall.specs.declared.pass.ObjectPass.{ObjectPass}
use Rattle.cp_turn_hall.specs.Behind.{hall_at_start, IsPlaceOf, Serves, at_place}

pub serves_length : (n : ℕ) (ts : List (TurnstileView HallRow)) (ps : List ObjectPass) → Serves n ts ps → length ps ≡ length ts
serves_length n [] [] s = refl
serves_length n [] (p ∷ ps) s = absurd s
serves_length n (t ∷ ts) [] s = absurd s
serves_length n (t ∷ ts) (p ∷ ps) s = ap suc (serves_length n ts ps s.1)

pub serves_at : (n : ℕ) (ts : List (TurnstileView HallRow)) (ps : List ObjectPass) (at : ℕ) (t : TurnstileView HallRow) (p : ObjectPass) → Serves n ts ps
    → slice_get ts at ≡ Some t → slice_get ps at ≡ Some p → IsPlaceOf n t p
serves_at n [] ps at t p s e f = cc
serves_at n (x ∷ ts) [] at t p s e f = absurd s
serves_at n (x ∷ ts) (y ∷ ps) zero t p s e f =
    let a : x ≡ t = cc in
    let b : y ≡ p = cc in
    subst (λ (u : TurnstileView HallRow). IsPlaceOf n u p) a (subst (λ (q : ObjectPass). IsPlaceOf n x q) b s.0)
serves_at n (x ∷ ts) (y ∷ ps) (suc at) t p s e f = serves_at n ts ps at t p s.1 e f

pub serves_set : (n : ℕ) (ts : List (TurnstileView HallRow)) (ps : List ObjectPass) (at : ℕ) (t : TurnstileView HallRow) (p : ObjectPass) → Serves n ts ps
    → slice_get ts at ≡ Some t → IsPlaceOf n t p → Serves n ts (slice_set ps at p)
serves_set n [] ps at t p s e h = cc
serves_set n (x ∷ ts) [] at t p s e h = absurd s
serves_set n (x ∷ ts) (y ∷ ps) zero t p s e h =
    let a : x ≡ t = cc in
    (subst (λ (u : TurnstileView HallRow). IsPlaceOf n u p) (sym a) h, s.1)
serves_set n (x ∷ ts) (y ∷ ps) (suc at) t p s e h = (s.0, serves_set n ts ps at t p s.1 e h)

module _ {A : Type 0} (f : ObjectPass → A) (none : A) where
  pub place_is : (ps : List ObjectPass) (at : ℕ) (p : ObjectPass) → slice_get ps at ≡ Some p → at_place f none ps at ≡ f p
  place_is [] at p e = cc
  place_is (x ∷ ps) zero p e = let a : x ≡ p = cc in ap f a
  place_is (x ∷ ps) (suc at) p e = place_is ps at p e

  pub place_here : (ps : List ObjectPass) (at : ℕ) (p : ObjectPass) → at < length ps → at_place f none (slice_set ps at p) at ≡ f p
  place_here [] at p h = absurd (let z : ⊥ = omega arith in z)
  place_here (x ∷ ps) zero p h = refl
  place_here (x ∷ ps) (suc at) p h = place_here ps at p (omega arith)

  pub place_there : (ps : List ObjectPass) (at q : ℕ) (p : ObjectPass) → q ≢ at → at_place f none (slice_set ps at p) q ≡ at_place f none ps q
  place_there [] at q p d = refl
  place_there (x ∷ ps) zero zero p d = absurd (d refl)
  place_there (x ∷ ps) zero (suc q) p d = refl
  place_there (x ∷ ps) (suc at) zero p d = refl
  place_there (x ∷ ps) (suc at) (suc q) p d = place_there ps at q p (λ e. d (ap suc e))

  pub place_past : (ps : List ObjectPass) (at : ℕ) → length ps ≤ at → at_place f none ps at ≡ none
  place_past [] at h = refl
  place_past (x ∷ ps) zero h = absurd (let z : ⊥ = omega arith in z)
  place_past (x ∷ ps) (suc at) h = place_past ps at (omega arith)

-- the object behind a turnstile, as it stood when it was put there
pub start_is : (ts : List (TurnstileView HallRow)) (at : ℕ) (t : TurnstileView HallRow) → slice_get ts at ≡ Some t → slice_get (hall_at_start ts) at ≡ Some (hall_object t.base)
start_is [] at t e = cc
start_is (x ∷ ts) zero t e = let a : x ≡ t = cc in ap (λ (u : TurnstileView HallRow). Some (hall_object u.base)) a
start_is (x ∷ ts) (suc at) t e = start_is ts at t e

pub object_is : (hall : List HallObject) (at : ℕ) (o : HallObject) → slice_get hall at ≡ Some o → slice_get (objects_of hall) at ≡ Some o.object
object_is [] at o e = cc
object_is (x ∷ hall) zero o e = let a : x ≡ o = cc in ap (λ (y : HallObject). Some y.object) a
object_is (x ∷ hall) (suc at) o e = object_is hall at o e

pub first_history : (ts : List (TurnstileView HallRow)) (at : ℕ) (t : TurnstileView HallRow) → slice_get ts at ≡ Some t → history_at (hall_at_start ts) at ≡ t.base.pred.history
first_history ts at t e = ap history_of (start_is ts at t e)

pub first_object : (ts : List (TurnstileView HallRow)) (at : ℕ) (t : TurnstileView HallRow) → slice_get ts at ≡ Some t → slice_get (objects_of (hall_at_start ts)) at ≡ Some (hall_object t.base).object
first_object ts at t e = object_is (hall_at_start ts) at (hall_object t.base) (start_is ts at t e)

pub length_objects : (ts : List (TurnstileView HallRow)) → length (objects_of (hall_at_start ts)) ≡ length ts
length_objects [] = refl
length_objects (t ∷ ts) = ap suc (length_objects ts)

-- a turnstile that an index reads
pub get_is : {X : Type 0} (xs : List X) (at : ℕ) → at < length xs → (x : X) × (slice_get xs at ≡ Some x)
get_is [] at h = absurd (let z : ⊥ = omega arith in z)
get_is (x ∷ xs) zero h = (x, refl)
get_is (x ∷ xs) (suc at) h = get_is xs at (omega arith)
