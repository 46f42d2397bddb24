-- Lists of which one item is set, and lists that only one caller has lengthened.
use Rattle.std.proofs.Common.{◌≡◌, ◌≢◌, inl, inr, ℕ, zero, suc, ◌<◌, ◌==◌, List, [], ◌∷◌, ◌++◌, length, refl, sym, ◌∙◌, ap, false, Some, arith}
use Rattle.std.specs.Prelude.{map, slice_get, slice_set}
use Rattle.std.proofs.lemmas.Bool.Decides.{eqb_tells}
use Rattle.std.proofs.lemmas.List.Elements.{filter-append}
use Rattle.cp_list.specs.Lists.{IsPrefix, own}

pub append_nil : {X : Type 0} (xs : List X) → xs ++ [] ≡ xs
append_nil [] = refl
append_nil (x ∷ xs) = ap (λ r. x ∷ r) (append_nil xs)

pub cancel : {X : Type 0} (xs ys zs : List X) → xs ++ ys ≡ xs ++ zs → ys ≡ zs
cancel [] ys zs e = e
cancel (x ∷ xs) ys zs e = cancel xs ys zs (let z : xs ++ ys ≡ xs ++ zs = cc in z)

pub get_map : {A B : Type 0} (f : A → B) (xs : List A) (k : ℕ) (x : A) → slice_get xs k ≡ Some x → slice_get (map f xs) k ≡ Some (f x)
get_map f [] k x h = let w : ⊥ = cc in absurd w
get_map f (y ∷ xs) zero x h = let z : y ≡ x = cc in ap (λ v. Some (f v)) z
get_map f (y ∷ xs) (suc k) x h = get_map f xs k x h

pub map_set : {A B : Type 0} (f : A → B) (xs : List A) (k : ℕ) (x : A) → map f (slice_set xs k x) ≡ slice_set (map f xs) k (f x)
map_set f [] k x = refl
map_set f (y ∷ xs) zero x = refl
map_set f (y ∷ xs) (suc k) x = ap (λ r. f y ∷ r) (map_set f xs k x)

pub get_set : {A : Type 0} (xs : List A) (k : ℕ) (x y : A) → slice_get xs k ≡ Some x → slice_get (slice_set xs k y) k ≡ Some y
get_set [] k x y h = let w : ⊥ = cc in absurd w
get_set (z ∷ xs) zero x y h = refl
get_set (z ∷ xs) (suc k) x y h = get_set xs k x y h

pub get_set_other : {A : Type 0} (xs : List A) (k i : ℕ) (y : A) → i ≢ k → slice_get (slice_set xs k y) i ≡ slice_get xs i
get_set_other [] k i y d = refl
get_set_other (z ∷ xs) zero zero y d = absurd (d refl)
get_set_other (z ∷ xs) zero (suc i) y d = refl
get_set_other (z ∷ xs) (suc k) zero y d = refl
get_set_other (z ∷ xs) (suc k) (suc i) y d = get_set_other xs k i y (λ e. d (ap suc e))

pub set_same : {A : Type 0} (xs : List A) (k : ℕ) (x : A) → slice_get xs k ≡ Some x → slice_set xs k x ≡ xs
set_same [] k x h = refl
set_same (y ∷ xs) zero x h = let z : y ≡ x = cc in ap (λ v. v ∷ xs) (sym z)
set_same (y ∷ xs) (suc k) x h = ap (λ r. y ∷ r) (set_same xs k x h)

pub set_set : {A : Type 0} (xs : List A) (k : ℕ) (x y : A) → slice_set (slice_set xs k x) k y ≡ slice_set xs k y
set_set [] k x y = refl
set_set (z ∷ xs) zero x y = refl
set_set (z ∷ xs) (suc k) x y = ap (λ r. z ∷ r) (set_set xs k x y)

pub length_set : {A : Type 0} (xs : List A) (k : ℕ) (x : A) → length (slice_set xs k x) ≡ length xs
length_set [] k x = refl
length_set (y ∷ xs) zero x = refl
length_set (y ∷ xs) (suc k) x = ap suc (length_set xs k x)

pub get_within : {A : Type 0} (xs : List A) (k : ℕ) (x : A) → slice_get xs k ≡ Some x → k < length xs
get_within [] k x h = let w : ⊥ = cc in absurd w
get_within (y ∷ xs) zero x h = omega arith
get_within (y ∷ xs) (suc k) x h = let z : k < length xs = get_within xs k x h in omega arith

pub get_there : {A : Type 0} (xs : List A) (k : ℕ) → k < length xs → (x : A) × (slice_get xs k ≡ Some x)
get_there [] k h = absurd (let z : ⊥ = omega arith in z)
get_there (x ∷ xs) zero h = (x, refl)
get_there (x ∷ xs) (suc k) h = get_there xs k (omega arith)

cons_nil : {E : Type 0} (e : E) (es : List E) → e ∷ es ≡ [] → ⊥
cons_nil e es h = cc

own_head : {E : Type 0} (by : E → ℕ) (n : ℕ) (e : E) (es : List E) → own by n (e ∷ es) ≡ [] → ((by e == n) ≡ false) × (own by n es ≡ [])
own_head by n e es h = elim (eqb_tells (by e) n) [
  | inl s ↦ absurd (cons_nil e (own by n es) (sym (let z : own by n (e ∷ es) ≡ e ∷ own by n es = rw s.0 refl in z) ∙ h))
  | inr d ↦ (d.0, sym (let z : own by n (e ∷ es) ≡ own by n es = rw d.0 refl in z) ∙ h)
]

not_itself : (m : ℕ) → (m == m) ≡ false → ⊥
not_itself m f = elim (eqb_tells m m) [
  | inl s ↦ (let z : ⊥ = cc (s.0, f) in z)
  | inr d ↦ d.1 refl
]

-- entries of which nobody else has any are the caller's own
all_own : {E : Type 0} (by : E → ℕ) (n : ℕ) (es : List E) → ((m : ℕ) → m ≢ n → own by m es ≡ []) → own by n es ≡ es
all_own by n [] none = refl
all_own by n (e ∷ es) none = elim (eqb_tells (by e) n) [
  | inl s ↦ (let z : own by n (e ∷ es) ≡ e ∷ own by n es = rw s.0 refl in z ∙ ap (λ r. e ∷ r) (all_own by n es (λ m d. (own_head by m e es (none m d)).1)))
  | inr d ↦ absurd (not_itself (by e) (own_head by (by e) e es (none (by e) d.1)).0)
]

-- what was added behind a list is just what its only new caller added
pub only_mine : {E : Type 0} (by : E → ℕ) (n : ℕ) (xs ys mine : List E) → IsPrefix xs ys → ((m : ℕ) → m ≢ n → own by m ys ≡ own by m xs) → own by n ys ≡ own by n xs ++ mine → ys ≡ xs ++ mine
only_mine {E} by n xs ys mine grows others own_is =
    grows.1 ∙ ap (λ r. xs ++ r) (sym (all_own by n grows.0 none) ∙ cancel (own by n xs) (own by n grows.0) mine (sym (split n) ∙ own_is))
  where
    split : (m : ℕ) → own by m ys ≡ own by m xs ++ own by m grows.0
    split m = ap (own by m) grows.1 ∙ filter-append (λ (e : E). by e == m) xs grows.0

    none : (m : ℕ) → m ≢ n → own by m grows.0 ≡ []
    none m d = cancel (own by m xs) (own by m grows.0) [] (sym (split m) ∙ (others m d ∙ sym (append_nil (own by m xs))))
