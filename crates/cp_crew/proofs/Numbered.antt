-- What holds of each item of a list at its number.
use Rattle.std.proofs.Common.{◌≡◌, ◌≢◌, ℕ, zero, suc, ◌+◌, ◌<◌, ◌≤◌, List, [], ◌∷◌, length, refl, sym, ◌∙◌, ap, subst, Some, inl, inr, arith}
use Rattle.std.proofs.lemmas.List.Elements.{All-nil, All-cons}
use Rattle.std.proofs.lemmas.Bool.Decides.{eqb_tells}
use Rattle.std.proofs.lemmas.Option.{slice_get_within}
use Rattle.std.specs.Prelude.{All, slice_get, slice_index_or}

-- P holds of each at its number, and these are from n on
abbrev pub Each : {X : Type 0} → (ℕ → X → Type 0) → ℕ → List X → Type 0
Each P n [] = Unit {0}
Each P n (x ∷ xs) = P n x × Each P (n + 1) xs

first : (n : ℕ) → 0 + n ≡ n
first n = omega arith

further : (i n : ℕ) → suc i + n ≡ i + (n + 1)
further i n = omega arith

pub each_of : {X : Type 0} (P : ℕ → X → Type 0) (n : ℕ) (xs : List X) → ((i : ℕ) (x : X) → slice_get xs i ≡ Some x → P (i + n) x) → Each P n xs
each_of P n [] h = tt
each_of P n (x ∷ xs) h = (subst (λ m. P m x) (first n) (h 0 x refl), each_of P (n + 1) xs (λ i y e. subst (λ m. P m y) (further i n) (h (suc i) y e)))

pub each_at : {X : Type 0} (P : ℕ → X → Type 0) (n : ℕ) (xs : List X) → Each P n xs → (i : ℕ) (x : X) → slice_get xs i ≡ Some x → P (i + n) x
each_at P n [] each i x e = let w : ⊥ = cc in absurd w
each_at {X} P n (y ∷ xs) each zero x e = let same : y ≡ x = cc in subst (λ m. P m x) (sym (first n)) (subst (λ z. P n z) same each.0)
each_at P n (y ∷ xs) each (suc i) x e = subst (λ m. P m x) (sym (further i n)) (each_at P (n + 1) xs each.1 i x e)

pub each_index : {X : Type 0} (f : ℕ → X) (n : ℕ) (xs : List X) → ((k : ℕ) (d : X) → k < length xs → slice_index_or xs k d ≡ f (k + n)) → Each (λ m x. x ≡ f m) n xs
each_index f n [] h = tt
each_index f n (x ∷ xs) h = (h 0 x (omega arith) ∙ ap f (first n), each_index f (n + 1) xs (λ k d within. h (suc k) d (omega arith) ∙ ap f (further k n)))

-- nobody has a number that is not among theirs
pub nobody_has : {X : Type 0} (f : X → ℕ) (q n : ℕ) (xs : List X) → Each (λ m x. f x ≡ m) n xs → ((m : ℕ) → n ≤ m → m < n + length xs → m ≢ q) → All (λ x. f x ≢ q) xs
nobody_has f q n [] each out = All-nil (λ x. f x ≢ q)
nobody_has f q n (x ∷ xs) each out = All-cons (λ x. f x ≢ q) x xs (λ e. out n (omega arith) (omega arith) (sym each.0 ∙ e)) (nobody_has f q (n + 1) xs each.1 (λ m low high. out m (omega arith) (omega arith)))

-- what holds of the first i items holds of one more
pub one_more : {X : Type 0} (P : X → Type 0) (xs : List X) (i : ℕ) (x : X) → slice_get xs i ≡ Some x → P x
    → ((k : ℕ) (s : X) → k < i → slice_get xs k ≡ Some s → P s) → (k : ℕ) (s : X) → k < i + 1 → slice_get xs k ≡ Some s → P s
one_more {X} P xs i x at here before k s h e = elim (eqb_tells k i) [
  | inl same ↦ (let there : slice_get xs i ≡ Some s = subst (λ j. slice_get xs j ≡ Some s) same.1 e in let is : x ≡ s = cc (at, there) in subst P is here)
  | inr other ↦ before k s (omega (arith, other.1)) e
]

-- what holds of all that are within holds of all
pub all_of : {X : Type 0} (P : X → Type 0) (xs : List X) → ((k : ℕ) (s : X) → k < length xs → slice_get xs k ≡ Some s → P s) → (k : ℕ) (s : X) → slice_get xs k ≡ Some s → P s
all_of P xs h k s e = h k s (slice_get_within xs k s e) e
