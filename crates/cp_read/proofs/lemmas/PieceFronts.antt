-- Characters by what they begin, and runs of them.
use Rattle.std.proofs.Common.{◌≡◌, ℕ, suc, ◌+◌, ◌-◌, ◌<◌, ◌≤◌, Bool, true, false, cond, List, [], ◌∷◌, ◌++◌, length, inl, inr, refl, sym, ◌∙◌, ap, subst, arith}
use Rattle.std.specs.Prelude.{◌||◌, ◌&&◌, ◌==◌, nat_eq, nat_lt, nat_le, codes}
use Rattle.std.specs.List.{list_all, list_any, starts_with}
use Rattle.std.specs.Char.{is_digit, digit_value, is_ascii_lowercase, is_ascii_uppercase, is_ascii_alphanumeric}
use Rattle.std.specs.Int.{is_in_range}
use Rattle.std.specs.Str.Parse.{AllDigits}
use Rattle.std.proofs.lemmas.Bool.{cases_lt, cond_both, both_ways, false_from_ne_true, ltb-false, and_parts, and_left, and_right, and_from, or_cases, or_parts, or_left, or_right, ltb-true, lt-ltb, leb-true, le-leb, lt-leb, eqb-true, ne_eqb}
use Rattle.cp_char.specs.Characters.{first, run, begins, ◌∈◌, is_layout, is_alphanumeric, is_symbol, ends_clause}
use Rattle.cp_lex.specs.Lexical.{start}

-- a run that ends where the text behind it begins
pub run-ends : (test : ℕ → Bool) (w rest : List ℕ) → list_all test w ≡ true → test (first rest) ≡ false → run test (w ++ rest) ≡ length w
run-ends test [] [] all ends = refl
run-ends test [] (c ∷ rest) all ends = ap (λ b. cond b (1 + run test rest) 0) ends
run-ends test (c ∷ w) rest all ends =
    let both = and_parts (test c) (list_all test w) all in
    let more = run-ends test w rest both.1 ends in
    let e : 1 + run test (w ++ rest) ≡ suc (length w) = omega (arith, more) in
    ap (λ b. cond b (1 + run test (w ++ rest)) 0) both.0 ∙ e

-- what holds of some characters holds of each that is one of them
abbrev pub AllOf : (ℕ → Type 0) → List ℕ → Type 0
AllOf P [] = Unit {0}
AllOf P (d ∷ cs) = P d × AllOf P cs

pub one-of : (P : ℕ → Type 0) (cs : List ℕ) → AllOf P cs → (c : ℕ) → list_any (λ d. c == d) cs ≡ true → P c
one-of P [] all c h = cc
one-of P (d ∷ cs) all c h = elim (or_cases (c == d) (list_any (λ e. c == e) cs) h) [
  | inl same ↦ subst P (sym (eqb-true c d same)) all.0
  | inr other ↦ one-of P cs all.1 c other
]

-- ---- letters and digits

module _ (c : ℕ) (high : 48 ≤ c) where
  no_layout : is_layout c ≡ false
  no_layout =
      let e1 = ne_eqb c 32 (λ e. omega (arith, e, high)) in
      let e2 = ne_eqb c 9 (λ e. omega (arith, e, high)) in
      let e3 = ne_eqb c 10 (λ e. omega (arith, e, high)) in
      let e4 = ne_eqb c 13 (λ e. omega (arith, e, high)) in
      let e5 = ne_eqb c 12 (λ e. omega (arith, e, high)) in
      λ i. e1 i || e2 i || e3 i || e4 i || e5 i

  no_percent : (c ∈ "%") ≡ false
  no_percent = let e1 = ne_eqb c 37 (λ e. omega (arith, e, high)) in λ i. e1 i || false

  no_slash : nat_eq 47 c ≡ false
  no_slash = ne_eqb 47 c (λ e. omega (arith, e, high))

lowercase-range : (c : ℕ) → is_ascii_lowercase c ≡ true → 97 ≤ c
lowercase-range c h = leb-true 97 c (and_parts (nat_le 97 c) (nat_le c 122) h).0

pub lowercase-alphanumeric : (c : ℕ) → is_ascii_lowercase c ≡ true → is_alphanumeric c ≡ true
lowercase-alphanumeric c h = or_left (is_ascii_alphanumeric c) (c ∈ "_") (or_right (is_in_range 48 57 c || is_in_range 65 90 c) (is_in_range 97 122 c) h)

pub start-small : (c : ℕ) (rest : List ℕ) → is_ascii_lowercase c ≡ true → start (c ∷ rest) ≡ start (codes "a")
start-small c rest h =
    let low = lowercase-range c h in
    let high : 48 ≤ c = omega (arith, low) in
    let e1 = no_layout c high in
    let e2 = no_percent c high in
    let e3 = no_slash c high in
    rw (e1, e2, e3, h, start)

digit-from : (c : ℕ) → 58 ≤ c → 10 ≤ digit_value c
digit-from c h =
    let P : ℕ → Type 0 = λ v. 10 ≤ v in
    let v5 : ℕ = cond (nat_lt c 123) (c - 87) 36 in
    let v4 : ℕ = cond (nat_lt c 97) 36 v5 in
    let v3 : ℕ = cond (nat_lt c 91) (c - 55) v4 in
    let v2 : ℕ = cond (nat_lt c 65) 36 v3 in
    cond_both (nat_lt c 48) 36 (cond (nat_lt c 58) (c - 48) v2) P (λ _. omega arith)
    (λ _. cond_both (nat_lt c 58) (c - 48) v2 P (λ e. omega (arith, ltb-true c 58 e))
    (λ _. cond_both (nat_lt c 65) 36 v3 P (λ _. omega arith)
    (λ e65. cond_both (nat_lt c 91) (c - 55) v4 P (λ _. let low = ltb-false c 65 e65 in omega (arith, low))
    (λ _. cond_both (nat_lt c 97) 36 v5 P (λ _. omega arith)
    (λ e97. cond_both (nat_lt c 123) (c - 87) 36 P (λ _. let low = ltb-false c 97 e97 in omega (arith, low)) (λ _. omega arith))))))

pub digit-range : (c : ℕ) → digit_value c < 10 → (48 ≤ c) × (c ≤ 57)
digit-range c h = elim (cases_lt c 48) [
  | inl low ↦ (let e : digit_value c ≡ 36 = ap (λ b. cond b 36 (cond (nat_lt c 58) (c - 48) (cond (nat_lt c 65) 36 (cond (nat_lt c 91) (c - 55) (cond (nat_lt c 97) 36 (cond (nat_lt c 123) (c - 87) 36)))))) (lt-ltb c 48 low) in absurd (omega (arith, h, e)))
  | inr from48 ↦ elim (cases_lt c 58) [
    | inl low ↦ (from48, omega (arith, low))
    | inr high ↦ absurd (omega (arith, h, digit-from c high))
  ]
]

pub digit-alphanumeric : (c : ℕ) → 48 ≤ c → c ≤ 57 → is_alphanumeric c ≡ true
digit-alphanumeric c low high =
    or_left (is_ascii_alphanumeric c) (c ∈ "_") (or_left (is_in_range 48 57 c || is_in_range 65 90 c) (is_in_range 97 122 c)
    (or_left (is_in_range 48 57 c) (is_in_range 65 90 c) (and_from (nat_le 48 c) (nat_le c 57) (le-leb 48 c low) (le-leb c 57 high))))

pub digits-alphanumeric : (ds : List ℕ) → AllDigits 10 ds → list_all is_alphanumeric ds ≡ true
digits-alphanumeric [] all = refl
digits-alphanumeric (c ∷ ds) all =
    let range = digit-range c all.0 in
    and_from (is_alphanumeric c) (list_all is_alphanumeric ds) (digit-alphanumeric c range.0 range.1) (digits-alphanumeric ds all.1)

pub digits-digits : (ds : List ℕ) → AllDigits 10 ds → list_all (λ c. is_digit c 10) ds ≡ true
digits-digits [] all = refl
digits-digits (c ∷ ds) all = and_from (is_digit c 10) (list_all (λ d. is_digit d 10) ds) (lt-ltb (digit_value c) 10 all.0) (digits-digits ds all.1)

pub no_digit : (c : ℕ) → is_alphanumeric c ≡ false → is_digit c 10 ≡ false
no_digit c h = false_from_ne_true (is_digit c 10) (λ e.
    let range = digit-range c (ltb-true (digit_value c) 10 e) in
    both_ways (is_alphanumeric c) h (digit-alphanumeric c range.0 range.1))

pub start-digit : (c : ℕ) (rest : List ℕ) → digit_value c < 10 → start (c ∷ rest) ≡ start (codes "0")
start-digit c rest h =
    let range = digit-range c h in
    let low : 48 ≤ c = range.0 in
    let high : c ≤ 57 = range.1 in
    let e1 = no_layout c low in
    let e2 = no_percent c low in
    let e3 = no_slash c low in
    let e4 : is_ascii_lowercase c ≡ false = and_left (nat_le 97 c) (nat_le c 122) (lt-leb 97 c (omega (arith, high))) in
    let e5 : is_ascii_uppercase c ≡ false = and_left (nat_le 65 c) (nat_le c 90) (lt-leb 65 c (omega (arith, high))) in
    let e6 : (c ∈ "_") ≡ false = let e = ne_eqb c 95 (λ e. omega (arith, e, high)) in λ i. e i || false in
    let e7 : is_digit c 10 ≡ true = lt-ltb (digit_value c) 10 h in
    rw (e1, e2, e3, e4, e5, e6, e7, start)

-- ---- symbols

abbrev others : ℕ → Bool
others c = is_layout c || (c ∈ "%" || (is_ascii_lowercase c || ((is_ascii_uppercase c || c ∈ "_") || is_digit c 10)))

symbol-others : AllOf (λ c. others c ≡ false) (codes "+-*/\\^<>=~:.?@#&$")
symbol-others = (refl, (refl, (refl, (refl, (refl, (refl, (refl, (refl, (refl, (refl, (refl, (refl, (refl, (refl, (refl, (refl, (refl, tt)))))))))))))))))

pub start-symbol : (c : ℕ) (rest : List ℕ) → is_symbol c ≡ true → begins "/*" (c ∷ rest) ≡ false → (c ∈ "." && ends_clause rest) ≡ false → start (c ∷ rest) ≡ start (codes "+")
start-symbol c rest h no_comment no_end =
    let none = one-of (λ d. others d ≡ false) (codes "+-*/\\^<>=~:.?@#&$") symbol-others c h in
    let p1 = or_parts (is_layout c) (c ∈ "%" || (is_ascii_lowercase c || ((is_ascii_uppercase c || c ∈ "_") || is_digit c 10))) none in
    let p2 = or_parts (c ∈ "%") (is_ascii_lowercase c || ((is_ascii_uppercase c || c ∈ "_") || is_digit c 10)) p1.1 in
    let p3 = or_parts (is_ascii_lowercase c) ((is_ascii_uppercase c || c ∈ "_") || is_digit c 10) p2.1 in
    let p4 = or_parts (is_ascii_uppercase c || c ∈ "_") (is_digit c 10) p3.1 in
    let e1 = p1.0 in
    let e2 = p2.0 in
    let e3 = p3.0 in
    let e4 = p4.0 in
    let e5 = p4.1 in
    rw (e1, e2, no_comment, e3, e4, e5, no_end, h, start)

-- a text that begins with none of these two characters
pub no_two : (m c : ℕ) (t : List ℕ) → nat_eq m (first t) ≡ false → starts_with nat_eq (c ∷ t) (48 ∷ m ∷ []) ≡ false
no_two m c [] h = and_right (nat_eq 48 c) false refl
no_two m c (d ∷ t) h = and_right (nat_eq 48 c) (nat_eq m d && true) (and_left (nat_eq m d) true h)
