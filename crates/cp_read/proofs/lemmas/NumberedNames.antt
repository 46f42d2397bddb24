-- The names of variables that are numbered by first occurrence.
use Rattle.std.proofs.Common.{◌≡◌, ℕ, zero, suc, ◌+◌, ◌<◌, ◌≤◌, ◌^◌, true, false, cond, List, [], ◌∷◌, ◌++◌, length, inl, inr, refl, sym, ◌∙◌, ap, arith}
use Rattle.std.specs.Prelude.{codes, decimal}
use Rattle.std.specs.Str.{bytes_eq}
use Rattle.std.proofs.lemmas.List.{length-append}
use Rattle.std.proofs.lemmas.Slice.Eq.{bytes_eq-Decides}
use Rattle.std.proofs.lemmas.Fmt.{decimal_nonempty, decimal_injective}
use Rattle.std.proofs.lemmas.Bool.{cases_Bool, cases_eq, false_from_ne_true, eq-eqb, ne_eqb}
use Rattle.cp_lex.specs.declared.token.TokenKind.TheVariants as kinds
use Rattle.cp_read.specs.Lexemes.{is_anonymous, place_of, variable_number, seen_behind}

-- the variable of a number as it is written, and the first so many of them
abbrev pub variable_name : ℕ → List ℕ
variable_name n = codes "_" ++ decimal n

abbrev pub names : ℕ → List (List ℕ)
names zero = []
names (suc n) = names n ++ variable_name n ∷ []

length-names : (n : ℕ) → length (names n) ≡ n
length-names zero = refl
length-names (suc n) = let e = length-append (names n) (variable_name n ∷ []) in let h = length-names n in omega (arith, e, h)

-- a name among some, and behind some
place-among : (xs ys : List (List ℕ)) (called : List ℕ) → place_of xs called < length xs → place_of (xs ++ ys) called ≡ place_of xs called
place-among [] ys called h = absurd (omega (arith, h))
place-among (x ∷ xs) ys called h = elim (cases_Bool (bytes_eq x called)) [
  | inl same ↦ ap (λ b. cond b 0 (suc (place_of (xs ++ ys) called))) same ∙ sym (ap (λ b. cond b 0 (suc (place_of xs called))) same)
  | inr other ↦
      (let here : place_of (x ∷ xs) called ≡ suc (place_of xs called) = ap (λ b. cond b 0 (suc (place_of xs called))) other in
      ap (λ n. cond (bytes_eq x called) 0 (suc n)) (place-among xs ys called (omega (arith, h, here))))
]

place-behind : (xs ys : List (List ℕ)) (called : List ℕ) → place_of xs called ≡ length xs → place_of (xs ++ ys) called ≡ length xs + place_of ys called
place-behind [] ys called h = omega arith
place-behind (x ∷ xs) ys called h = elim (cases_Bool (bytes_eq x called)) [
  | inl same ↦ (let here : place_of (x ∷ xs) called ≡ 0 = ap (λ b. cond b 0 (suc (place_of xs called))) same in absurd (omega (arith, h, here)))
  | inr other ↦
      (let here : place_of (x ∷ xs) called ≡ suc (place_of xs called) = ap (λ b. cond b 0 (suc (place_of xs called))) other in
      let more = place-behind xs ys called (omega (arith, h, here)) in
      ap (λ b. cond b 0 (suc (place_of (xs ++ ys) called))) other ∙ omega (arith, more))
]

same-name : (n : ℕ) → bytes_eq (variable_name n) (variable_name n) ≡ true
same-name n = (bytes_eq-Decides (variable_name n) (variable_name n)).1 refl

other-name : (m n : ℕ) → m < 2 ^ 64 → n < 2 ^ 64 → (m ≡ n → ⊥) → bytes_eq (variable_name m) (variable_name n) ≡ false
other-name m n small_m small_n other =
    false_from_ne_true (bytes_eq (variable_name m) (variable_name n)) (λ h.
    let same : variable_name m ≡ variable_name n = (bytes_eq-Decides (variable_name m) (variable_name n)).0 h in
    let digits : decimal m ≡ decimal n = cc in
    other (decimal_injective m n small_m small_n digits))

-- a variable that is not among the first ones
place-out : (count n : ℕ) → count ≤ n → n < 2 ^ 64 → place_of (names count) (variable_name n) ≡ count
place-out zero n h small = refl
place-out (suc count) n h small =
    let before = place-out count n (omega (arith, h)) small in
    let len = length-names count in
    let other = other-name count n (omega (arith, h, small)) small (λ e. omega (arith, e, h)) in
    let last : place_of (variable_name count ∷ []) (variable_name n) ≡ 1 = ap (λ b. cond b 0 1) other in
    place-behind (names count) (variable_name count ∷ []) (variable_name n) (before ∙ sym len) ∙ omega (arith, len, last)

place-in : (count n : ℕ) → n < count → count ≤ 2 ^ 64 → place_of (names count) (variable_name n) ≡ n
place-in zero n h small = absurd (omega (arith, h))
place-in (suc count) n h small = elim (cases_eq n count) [
  | inl same ↦
      (let out = place-out count count (omega arith) (omega (arith, small)) in
      let len = length-names count in
      let last : place_of (variable_name count ∷ []) (variable_name count) ≡ 0 = ap (λ b. cond b 0 1) (same-name count) in
      ap (λ k. place_of (names (suc count)) (variable_name k)) same
      ∙ (place-behind (names count) (variable_name count ∷ []) (variable_name count) (out ∙ sym len) ∙ omega (arith, len, last, same)))
  | inr other ↦
      (let below : n < count = omega (arith, h, other) in
      let within = place-in count n below (omega (arith, small)) in
      let len = length-names count in
      place-among (names count) (variable_name count ∷ []) (variable_name n) (omega (arith, within, len, below)) ∙ within)
]

named : (n : ℕ) → n < 2 ^ 64 → is_anonymous (variable_name n) ≡ false
named n small =
    false_from_ne_true (is_anonymous (variable_name n)) (λ h.
    let same : variable_name n ≡ codes "_" = (bytes_eq-Decides (variable_name n) (codes "_")).0 h in
    let none : decimal n ≡ [] = cc in
    let some = decimal_nonempty n small in
    omega (arith, some, ap length none))

number-is : (seen : List (List ℕ)) (n : ℕ) → n < 2 ^ 64 → variable_number seen (variable_name n) ≡ place_of seen (variable_name n)
number-is seen n small = ap (λ b. cond b (length seen) (place_of seen (variable_name n))) (named n small)

-- one that has occurred
pub known-number : (count n : ℕ) → n < count → count ≤ 2 ^ 64 → variable_number (names count) (variable_name n) ≡ n
known-number count n h small = number-is (names count) n (omega (arith, h, small)) ∙ place-in count n h small

pub known-seen : (count n : ℕ) → n < count → count ≤ 2 ^ 64 → seen_behind (names count) (kinds.Variable (variable_name n)) ≡ names count
known-seen count n h small =
    let is = known-number count n h small in
    let len = length-names count in
    ap (λ b. cond b (names count ++ variable_name n ∷ []) (names count))
    (ne_eqb (variable_number (names count) (variable_name n)) (length (names count)) (λ e. omega (arith, e, is, len, h)))

-- the next one
pub new-number : (n : ℕ) → n < 2 ^ 64 → variable_number (names n) (variable_name n) ≡ n
new-number n small = number-is (names n) n small ∙ place-out n n (omega arith) small

pub new-seen : (n : ℕ) → n < 2 ^ 64 → seen_behind (names n) (kinds.Variable (variable_name n)) ≡ names (suc n)
new-seen n small =
    let is = new-number n small in
    let len = length-names n in
    ap (λ b. cond b (names n ++ variable_name n ∷ []) (names n)) (eq-eqb (variable_number (names n) (variable_name n)) (length (names n)) (is ∙ sym len))
