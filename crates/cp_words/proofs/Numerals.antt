-- Numerals: what a text in a range is, and what std reads of it.
use Rattle.std.proofs.Common.{◌≡◌, ◌∙◌, ℕ, ◌<◌, ◌≤◌, ◌^◌, ◌&&◌, Bool, true, false, nat_le, List, [], ◌∷◌, get_or, if◌then◌else◌, Option, Some, None, is_some, rules, arith, refl, sym, ap}
use Rattle.std.specs.List.{list_all}
use Rattle.std.specs.Char.{is_ascii_digit}
use Rattle.std.specs.Int.{IsInRange}
use Rattle.std.specs.Str.{IsUtf8}
use Rattle.std.specs.Str.Parse.{IsNumeral, ParsesUnsigned, digits_value, without_leading_plus}
use Rattle.std.proofs.lemmas.Str.{IsUtf8-from_ascii}
use Rattle.std.proofs.lemmas.Fmt.{IsAscii-from_digits}
use Rattle.std.proofs.lemmas.Str.Parse.{IsNumeralModel, numerals_by_value, without_leading_plus_none, digit_at}
use Rattle.std.proofs.lemmas.Bool.{lt-leb, leb-true, le-leb}
use Rattle.std.specs.Prelude.{Result, Ok, Err, option_and_then}
use Rattle.clap.specs.Words.{ReadsOne}
use Rattle.cp_words.specs.Words.{is_numeral, number_in}

pub and_left : (a b : Bool) → (a && b) ≡ true → a ≡ true
and_left true b h = refl
and_left false b h = h

and_right : (a b : Bool) → (a && b) ≡ true → b ≡ true
and_right true b h = h
and_right false b h = cc

own : IsNumeralModel (λ ds. list_all is_ascii_digit ds ≡ true) (digits_value 10)
own = numerals_by_value (λ ds. list_all is_ascii_digit ds ≡ true) (search rules)

pub numeral_of : (text : List ℕ) → is_numeral text ≡ true → IsNumeral 10 text
numeral_of [] h = cc
numeral_of (c ∷ more) h = (omega arith, own.to (c ∷ more) (and_left (list_all is_ascii_digit (c ∷ more)) _ h))

pub no_plus : (text : List ℕ) → IsNumeral 10 text → without_leading_plus text ≡ text
no_plus text h = without_leading_plus_none text (λ e. let at : IsInRange 48 57 (get_or text 0 0) = digit_at text 0 h.1 h.0 in omega arith)

pub numeral_utf8 : (text : List ℕ) → is_numeral text ≡ true → IsUtf8 text
numeral_utf8 text h = IsUtf8-from_ascii text (IsAscii-from_digits text (numeral_of text h).1)

-- no number above the most is in the range
past_most : (least most v : ℕ) (b : Bool) → most < v → false ≡ is_some (if b && (nat_le least v && nat_le v most) then Some v else None)
past_most least most v b above =
    let past : nat_le v most ≡ false = lt-leb v most above in
    rw past (go b (nat_le least v))
  where
    go : (x y : Bool) → false ≡ is_some (if x && (y && false) then Some v else None)
    go true true = refl
    go true false = refl
    go false y = refl

-- a numeral past 64 bits is in no range below
pub too_big : (least most : ℕ) (text : List ℕ) → most < 2 ^ 64 → is_numeral text ≡ true
    → (IsNumeral 10 (without_leading_plus text) × (digits_value 10 (without_leading_plus text) < 2 ^ 64) → ⊥)
    → false ≡ is_some (number_in least most text)
too_big least most text fits h refused =
    let same = no_plus text (numeral_of text h) in
    let wide : digits_value 10 text < 2 ^ 64 → ⊥ = λ lt. refused (rw same (numeral_of text h), rw same lt) in
    past_most least most (digits_value 10 text) (is_numeral text) (omega arith)

-- a text that writes a number in a range
pub record IsIn (least most : ℕ) (text : List ℕ) : Type 0 where
  pub numeral : is_numeral text ≡ true
  pub low : least ≤ digits_value 10 text
  pub high : digits_value 10 text ≤ most
  pub value : number_in least most text ≡ Some (digits_value 10 text)

pub in_range : (least most : ℕ) (text : List ℕ) → is_some (number_in least most text) ≡ true → IsIn least most text
in_range least most text h = go (is_numeral text) (nat_le least (digits_value 10 text)) (nat_le (digits_value 10 text) most) refl refl refl
  where
    go : (a b c : Bool) → is_numeral text ≡ a → nat_le least (digits_value 10 text) ≡ b → nat_le (digits_value 10 text) most ≡ c → IsIn least most text
    go true true true ea eb ec = record { numeral = ea; low = leb-true _ _ eb; high = leb-true _ _ ec; value = rw (ea, eb, ec) refl }
    go true true false ea eb ec = let bad : false ≡ true = rw (ea, eb, ec) at h in cc
    go true false c ea eb ec = let bad : false ≡ true = rw (ea, eb) at h in cc
    go false b c ea eb ec = let bad : false ≡ true = rw ea at h in cc

-- a number in a range is in each wider one
pub wider : (least most above : ℕ) (text : List ℕ) → most ≤ above → IsIn least most text → number_in 0 above text ≡ Some (digits_value 10 text)
wider least most above text le i =
    let high : digits_value 10 text ≤ most = i.high in
    let low : nat_le 0 (digits_value 10 text) ≡ true = le-leb _ _ (omega arith) in
    let up : nat_le (digits_value 10 text) above ≡ true = le-leb _ _ (omega arith) in
    rw (i.numeral, low, up) refl

-- what an unsigned type of k bits reads of such a text
pub reads : (E : Type 0) (G : List ℕ → Result ℕ E → Type 0) (k most : ℕ) (o : Option (List ℕ)) (r : Option ℕ)
    → ((t : List ℕ) → o ≡ Some t → ReadsOne G t r) → ((u : List ℕ) (x : Result ℕ E) → G u x → ParsesUnsigned k 10 u x) → most < 2 ^ k
    → is_some (option_and_then (number_in 0 most) o) ≡ true
    → (n : ℕ) × (r ≡ Some n) × (option_and_then (number_in 0 most) o ≡ Some n)
reads E G k most None r read only fits h = let bad : false ≡ true = h in cc
reads E G k most (Some t) r read only fits h = go r (read t refl)
  where
    is : IsIn 0 most t
    is = in_range 0 most t h

    same : without_leading_plus t ≡ t
    same = no_plus t (numeral_of t is.numeral)

    go : (x : Option ℕ) → ReadsOne G t x → (n : ℕ) × (x ≡ Some n) × (number_in 0 most t ≡ Some n)
    go (Some v) g =
        let v_is : v ≡ digits_value 10 t = (only t (Ok v) g).1 ∙ ap (digits_value 10) same in
        (v, refl, is.value ∙ ap (λ n. Some n) (sym v_is))
    go None g =
        let high : digits_value 10 t ≤ most = is.high in
        let small : digits_value 10 t < 2 ^ k = omega arith in
        absurd (only t (Err g.0) g.1 (rw same (numeral_of t is.numeral), rw same small))
