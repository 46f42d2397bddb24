-- Numbers above the greatest one are all alike.
use Rattle.std.proofs.Common.{◌≡◌, ℕ, ◌+◌, ◌*◌, ◌/◌, ◌<◌, ◌≤◌, ◌^◌, true, false, cond, List, take, length, inl, inr, sym, ◌∙◌, ap, arith}
use Rattle.std.specs.Prelude.{min, drop}
use Rattle.std.specs.Char.{is_digit}
use Rattle.std.proofs.lemmas.Bool.{cases_lt, lt-ltb, le-leb, eq-eqb, ne_eqb}
use lib.Utf8.{scalar}
use Rattle.cp_char.specs.Characters.{run}
use Rattle.cp_lex.specs.declared.before.Before.{Before}
use Rattle.cp_lex.specs.declared.before.Before.TheVariants.{Minus, OtherWord, NoWord}
use Rattle.cp_lex.specs.declared.piece.Piece.TheVariants.{Token, Refused}
use Rattle.cp_lex.specs.declared.token.TokenKind.TheVariants.{Int}
use Rattle.cp_lex.specs.declared.error.LexWhy.TheVariants.{WideNumber}
use Rattle.cp_lex.specs.Lexical.{is_wide, integer, decimal, radix}
use Rattle.std.specs.Str.Parse.{digits_value}
use Rattle.std.proofs.Math.Nat.{div-lt_iff_lt-mul, div-mul-le_self, mul-le-mul_right}
use Rattle.std.proofs.lemmas.Int.Digits.{digits_value_more}
use Rattle.std.proofs.lemmas.Str.Parse.{digits_value-take-le}

-- one more digit, where the number so far is too large for one
pub too_large : (base : ℕ) (digits : List ℕ) (i value : ℕ) → 2 ≤ base → i < length digits → value ≡ digits_value base (take i digits) → 2 ^ 63 / base < value →
    2 ^ 63 + 1 ≤ digits_value base digits
too_large base digits i value two within e big =
    let positive : 0 < base = omega arith in
    let times : 2 ^ 63 < value * base = (div-lt_iff_lt-mul positive).0 big in
    let more = digits_value_more base digits i within in
    let whole = digits_value-take-le base digits (i + 1) positive in
    let same : value * base ≡ digits_value base (take i digits) * base = ap (λ v. v * base) e in
    omega arith

-- a number that is small enough for one more digit
pub small_enough : (base value : ℕ) → value ≤ 2 ^ 63 / base → value * base ≤ 2 ^ 63
small_enough base value h =
    let most = div-mul-le_self (2 ^ 63) base in
    let times : value * base ≤ 2 ^ 63 / base * base = mul-le-mul_right base h in
    omega arith

-- a number, but one above the greatest where it is larger
abbrev pub capped : ℕ → ℕ
capped n = min n (2 ^ 63 + 1)

wide : (before : Before) (n : ℕ) → 2 ^ 63 < n → is_wide before n ≡ true
wide Minus n h = lt-ltb (2 ^ 63) n h
wide OtherWord n h = le-leb (2 ^ 63) n (omega arith)
wide NoWord n h = le-leb (2 ^ 63) n (omega arith)

-- no test sees the difference
pub is_wide-capped : (before : Before) (n : ℕ) → is_wide before (capped n) ≡ is_wide before n
is_wide-capped before n = elim (cases_lt (2 ^ 63) n) [
  | inl large ↦ wide before (capped n) (omega arith) ∙ sym (wide before n large)
  | inr small ↦ (let e : capped n ≡ n = omega arith in ap (λ k. is_wide before k) e)
]

pub integer-capped : (before : Before) (n len : ℕ) → integer before (capped n) len ≡ integer before n len
integer-capped before n len = elim (cases_lt (2 ^ 63) n) [
  | inl large ↦ ap (λ b. cond b (Refused WideNumber 0) (Token (Int (capped n)) len)) (wide before (capped n) (omega arith))
      ∙ sym (ap (λ b. cond b (Refused WideNumber 0) (Token (Int n) len)) (wide before n large))
  | inr small ↦ (let e : capped n ≡ n = omega arith in ap (λ k. integer before k len) e)
]

no_scalar : (n : ℕ) → 1114112 ≤ n → scalar n ≡ false
no_scalar n h = grind arith

pub scalar-capped : (n : ℕ) → scalar (capped n) ≡ scalar n
scalar-capped n = elim (cases_lt (2 ^ 63) n) [
  | inl large ↦ no_scalar (capped n) (omega arith) ∙ sym (no_scalar n (omega arith))
  | inr small ↦ (let e : capped n ≡ n = omega arith in ap (λ k. scalar k) e)
]

-- a number in a base without a digit, and with some
module _ (before : Before) (base : ℕ) (t : List ℕ) (len : ℕ) (counted : len ≡ run (λ c. is_digit c base) (drop 2 t)) where
  pub radix-decimal : len ≡ 0 → decimal before t ≡ radix before base t
  radix-decimal none =
      sym (ap (λ b. cond b (decimal before t) (integer before (digits_value base (take (run (λ c. is_digit c base) (drop 2 t)) (drop 2 t))) (2 + run (λ c. is_digit c base) (drop 2 t))))
      (eq-eqb (run (λ c. is_digit c base) (drop 2 t)) 0 (sym counted ∙ none)))

  pub radix-integer : (len ≡ 0 → ⊥) → (value : ℕ) → value ≡ capped (digits_value base (take len (drop 2 t))) → integer before value (2 + len) ≡ radix before base t
  radix-integer some value is =
      ap (λ v. integer before v (2 + len)) is ∙ integer-capped before (digits_value base (take len (drop 2 t))) (2 + len)
      ∙ ap (λ n. integer before (digits_value base (take n (drop 2 t))) (2 + n)) counted
      ∙ sym (ap (λ b. cond b (decimal before t) (integer before (digits_value base (take (run (λ c. is_digit c base) (drop 2 t)) (drop 2 t))) (2 + run (λ c. is_digit c base) (drop 2 t))))
      (ne_eqb (run (λ c. is_digit c base) (drop 2 t)) 0 (λ none. some (counted ∙ none))))
