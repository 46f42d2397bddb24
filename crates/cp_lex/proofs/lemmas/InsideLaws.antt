-- A piece of a text takes at least one byte, and no more than there are.
use Rattle.std.proofs.Common.{◌≡◌, ℕ, suc, ◌+◌, ◌<◌, ◌≤◌, Bool, true, false, cond, List, [], ◌∷◌, length, take, drop, inl, inr, refl, sym, ◌∙◌, ap, subst, arith, Some, None}
use Rattle.std.specs.Prelude.{Option, not, ◌||◌, ◌&&◌, ◌==◌, nat_eq, option_map}
use Rattle.std.specs.List.{starts_with}
use Rattle.std.specs.Char.{is_digit, is_ascii_lowercase, is_ascii_uppercase, is_ascii_alphanumeric}
use Rattle.std.specs.Int.{is_in_range}
use Rattle.std.specs.Str.Parse.{digits_value}
use Rattle.std.proofs.lemmas.List.{length-drop}
use Rattle.std.proofs.lemmas.List.Sums.{prefix_len-le-length}
use Rattle.std.proofs.lemmas.Bool.{cond_both, cases_Bool, and_parts, or_cases, or_parts, or_left, or_right, not-false, not_from_false, eqb-true, ne_eqb}
use Rattle.bstr.specs.Utf8.{decoded}
use Rattle.bstr.proofs.lemmas.PieceLemmas.{size-within}
use lib.Utf8.{scalar}
use Rattle.cp_char.specs.Characters.{first, run, begins, ◌∈◌, newline, quote, double_quote, backslash, is_layout, is_alphanumeric, is_symbol, is_octal, ends_clause}
use Rattle.cp_lex.specs.declared.error.LexWhy.TheVariants.{WideNumber, Float, StrayByte}
use Rattle.cp_lex.specs.declared.token.TokenKind.{TokenKind}
use Rattle.cp_lex.specs.declared.token.TokenKind.TheVariants.{Word, Int, Text}
use Rattle.cp_lex.specs.declared.before.Before.{Before}
use Rattle.cp_lex.specs.declared.start.Start.{Start}
use Rattle.cp_lex.specs.declared.start.Start.TheVariants.{Layout, LineComment, BlockComment, SmallLetter, CapitalLetter, Digit, ClauseEnd, Symbols, Solo, WordQuote, TextQuote, Bracket, Nothing}
use Rattle.cp_lex.specs.declared.piece.Piece.{Piece}
use Rattle.cp_lex.specs.declared.piece.Piece.TheVariants.{Token, Refused}
use Rattle.cp_lex.specs.declared.escape.Escape.{Escape}
use Rattle.cp_lex.specs.declared.escape.Escape.TheVariants.{Bad, Character, Newline}
use Rattle.cp_lex.specs.declared.quoted.Quoted.{Quoted}
use Rattle.cp_lex.specs.declared.quoted.Quoted.TheVariants.{Closed, BadAt, Unended}
use Rattle.cp_lex.specs.Quoted.{by_number, is_escaped_sign, by_letter, continues_octal, escape, quoted}
use Rattle.cp_lex.specs.Steps.{IsEscapeWithin, IsQuotedWithin}
use Rattle.cp_lex.specs.Lexical.{is_bracket, sign, start, goes_on, past_comment, comment, quoted_piece, is_wide, integer, begins_fraction, decimal, radix, escaped_character, quote_character, decoded_character, plain_character, character, number, piece_from, piece}
use Rattle.cp_lex.specs.Laws.{IsInside}
use Rattle.cp_lex.proofs.lemmas.QuotedLaws.{quoted-within}

-- a text that begins with two characters has two
pub two : (a b : ℕ) (t : List ℕ) → starts_with nat_eq t (a ∷ b ∷ []) ≡ true → 2 ≤ length t
two a b [] h = cc
two a b (c ∷ []) h = let no = (and_parts (nat_eq a c) false h).1 in cc
two a b (c ∷ d ∷ t) h = omega arith

-- a run that begins is not empty
run-some : (test : ℕ → Bool) (c : ℕ) (rest : List ℕ) → test c ≡ true → 0 < run test (c ∷ rest)
run-some test c rest h = let e : run test (c ∷ rest) ≡ 1 + run test rest = ap (λ b. cond b (1 + run test rest) 0) h in omega arith

run-within : (test : ℕ → Bool) (t : List ℕ) → run test t ≤ length t
run-within test t = prefix_len-le-length test t

-- what the first character is, by what it begins
abbrev pub Begins : Start → ℕ → List ℕ → Type 0
Begins Layout c rest = is_layout c ≡ true
Begins LineComment c rest = (c ∈ "%") ≡ true
Begins BlockComment c rest = begins "/*" (c ∷ rest) ≡ true
Begins SmallLetter c rest = is_ascii_lowercase c ≡ true
Begins CapitalLetter c rest = (is_ascii_uppercase c || c ∈ "_") ≡ true
Begins Digit c rest = is_digit c 10 ≡ true
Begins Symbols c rest = is_symbol c ≡ true
Begins ClauseEnd c rest = (c ∈ "." && ends_clause rest) ≡ true
Begins Solo c rest = Unit {0}
Begins WordQuote c rest = Unit {0}
Begins TextQuote c rest = Unit {0}
Begins Bracket c rest = Unit {0}
Begins Nothing c rest = Unit {0}

module _ (c : ℕ) (rest : List ℕ) where
  abbrev P : Start → Type 0
  P s = Begins s c rest

  of_sign : P (sign c)
  of_sign =
      cond_both (c ∈ "!;") Solo (cond (c == quote) WordQuote (cond (c == double_quote) TextQuote (cond (is_bracket c) Bracket Nothing))) P (λ _. tt)
      (λ _. cond_both (c == quote) WordQuote (cond (c == double_quote) TextQuote (cond (is_bracket c) Bracket Nothing)) P (λ _. tt)
      (λ _. cond_both (c == double_quote) TextQuote (cond (is_bracket c) Bracket Nothing) P (λ _. tt)
      (λ _. cond_both (is_bracket c) Bracket Nothing P (λ _. tt) (λ _. tt))))

  abbrev s8 : Start
  s8 = cond (is_symbol c) Symbols (sign c)

  abbrev s7 : Start
  s7 = cond (c ∈ "." && ends_clause rest) ClauseEnd s8

  abbrev s6 : Start
  s6 = cond (is_digit c 10) Digit s7

  abbrev s5 : Start
  s5 = cond (is_ascii_uppercase c || c ∈ "_") CapitalLetter s6

  abbrev s4 : Start
  s4 = cond (is_ascii_lowercase c) SmallLetter s5

  abbrev s3 : Start
  s3 = cond (begins "/*" (c ∷ rest)) BlockComment s4

  abbrev s2 : Start
  s2 = cond (c ∈ "%") LineComment s3

  pub begins-start : P (start (c ∷ rest))
  begins-start =
      cond_both (is_layout c) Layout s2 P (λ h. h)
      (λ _. cond_both (c ∈ "%") LineComment s3 P (λ h. h)
      (λ _. cond_both (begins "/*" (c ∷ rest)) BlockComment s4 P (λ h. h)
      (λ _. cond_both (is_ascii_lowercase c) SmallLetter s5 P (λ h. h)
      (λ _. cond_both (is_ascii_uppercase c || c ∈ "_") CapitalLetter s6 P (λ h. h)
      (λ _. cond_both (is_digit c 10) Digit s7 P (λ h. h)
      (λ _. cond_both (c ∈ "." && ends_clause rest) ClauseEnd s8 P (λ h. h)
      (λ _. cond_both (is_symbol c) Symbols (sign c) P (λ h. h) (λ _. of_sign))))))))

-- letters are parts of names, and `%` ends no line
module _ (c : ℕ) where
  lowercase-alphanumeric : is_ascii_lowercase c ≡ true → is_alphanumeric c ≡ true
  lowercase-alphanumeric h = or_left (is_ascii_alphanumeric c) (c ∈ "_") (or_right (is_in_range 48 57 c || is_in_range 65 90 c) (is_in_range 97 122 c) h)

  capital-alphanumeric : (is_ascii_uppercase c || c ∈ "_") ≡ true → is_alphanumeric c ≡ true
  capital-alphanumeric h = elim (or_cases (is_ascii_uppercase c) (c ∈ "_") h) [
    | inl capital ↦ or_left (is_ascii_alphanumeric c) (c ∈ "_") (or_left (is_in_range 48 57 c || is_in_range 65 90 c) (is_in_range 97 122 c) (or_right (is_in_range 48 57 c) (is_in_range 65 90 c) capital))
    | inr underscore ↦ or_right (is_ascii_alphanumeric c) (c ∈ "_") underscore
  ]

  percent-goes_on : (c ∈ "%") ≡ true → goes_on c ≡ true
  percent-goes_on h = elim (or_cases (c == 37) false h) [
    | inl e ↦ (let is = eqb-true c 37 e in not_from_false (c == newline) (ne_eqb c newline (λ n. omega (arith, n))))
    | inr e ↦ cc
  ]

-- comments
one_more-within : (o : Option ℕ) (len n : ℕ) → ((m : ℕ) → o ≡ Some m → m ≤ len) → option_map (λ k. suc k) o ≡ Some n → n ≤ suc len
one_more-within None len n h e = cc
one_more-within (Some m) len n h e = let is : suc m ≡ n = cc in omega (arith, h m refl)

past_comment-within : (t : List ℕ) (n : ℕ) → past_comment t ≡ Some n → n ≤ length t
past_comment-within [] n e = cc
past_comment-within (c ∷ rest) n e =
    let more : Option ℕ = option_map (λ k. suc k) (past_comment rest) in
    elim (cases_Bool (begins "*/" (c ∷ rest))) [
      | inl ends ↦ (let is : Some 2 ≡ Some n = sym (ap (λ b. cond b (Some 2) more) ends) ∙ e in let length_is : 2 ≡ n = cc in omega (arith, two 42 47 (c ∷ rest) ends))
      | inr goes ↦ one_more-within (past_comment rest) (length rest) n (λ m h. past_comment-within rest m h) (sym (ap (λ b. cond b (Some 2) more) goes) ∙ e)
    ]

comment-inside : (o : Option ℕ) (len : ℕ) → ((n : ℕ) → o ≡ Some n → 2 + n ≤ len) → IsInside (comment o) len
comment-inside None len h = omega arith
comment-inside (Some n) len h = (omega arith, h n refl)

-- quoted texts
quoted_piece-inside : (kind : List ℕ → TokenKind) (q : Quoted) (len : ℕ) → IsQuotedWithin q len → IsInside (quoted_piece kind q) (suc len)
quoted_piece-inside kind (Closed bytes n) len h = (omega arith, omega (arith, h))
quoted_piece-inside kind (BadAt n) len h = omega (arith, h)
quoted_piece-inside kind Unended len h = omega arith

-- numbers
integer-inside : (before : Before) (value n len : ℕ) → 0 < n → n ≤ len → IsInside (integer before value n) len
integer-inside before value n len some h =
    cond_both (is_wide before value) (Refused WideNumber 0) (Token (Int value) n) (λ p. IsInside p len) (λ _. omega arith) (λ _. (some, h))

decimal-inside : (before : Before) (c : ℕ) (rest : List ℕ) → is_digit c 10 ≡ true → IsInside (decimal before (c ∷ rest)) (suc (length rest))
decimal-inside before c rest digit =
    let t : List ℕ = c ∷ rest in
    let n : ℕ = run (λ d. is_digit d 10) t in
    let value : ℕ = digits_value 10 (take n t) in
    cond_both (not (is_wide before value) && begins_fraction (drop n t)) (Refused Float 0) (integer before value n) (λ p. IsInside p (suc (length rest))) (λ _. omega arith)
    (λ _. integer-inside before value n (suc (length rest)) (run-some (λ d. is_digit d 10) c rest digit) (run-within (λ d. is_digit d 10) t))

radix-inside : (before : Before) (base c : ℕ) (rest : List ℕ) → is_digit c 10 ≡ true → 2 ≤ suc (length rest) → IsInside (radix before base (c ∷ rest)) (suc (length rest))
radix-inside before base c rest digit some =
    let t : List ℕ = c ∷ rest in
    let n : ℕ = run (λ d. is_digit d base) (drop 2 t) in
    let within : n ≤ length (drop 2 t) = run-within (λ d. is_digit d base) (drop 2 t) in
    let less = length-drop 2 t in
    cond_both (n == 0) (decimal before t) (integer before (digits_value base (take n (drop 2 t))) (2 + n)) (λ p. IsInside p (suc (length rest))) (λ _. decimal-inside before c rest digit)
    (λ _. integer-inside before (digits_value base (take n (drop 2 t))) (2 + n) (suc (length rest)) (omega arith) (omega arith))

-- escapes
first-some : (t : List ℕ) (c : ℕ) → 0 < c → first t ≡ c → 0 < length t
first-some [] c some e = absurd (omega (arith, e))
first-some (d ∷ t) c some e = omega arith

by_number-within : (skipped base : ℕ) (t : List ℕ) → IsEscapeWithin (by_number skipped base t) (skipped + length t)
by_number-within skipped base t =
    let n : ℕ = run (λ c. is_digit c base) t in
    let c : ℕ = digits_value base (take n t) in
    let len : ℕ = skipped + length t in
    cond_both (n == 0 || not (first (drop n t) == backslash)) (Bad 0) (cond (scalar c) (Character c (skipped + n + 1)) (Bad (skipped + n + 1))) (λ e. IsEscapeWithin e len) (λ _. omega arith)
    (λ h.
    let closes = eqb-true (first (drop n t)) backslash (not-false (first (drop n t) == backslash) (or_parts (n == 0) (not (first (drop n t) == backslash)) h).1) in
    let some = first-some (drop n t) backslash (omega arith) closes in
    let within : skipped + n + 1 ≤ len = omega (arith, length-drop n t, some) in
    cond_both (scalar c) (Character c (skipped + n + 1)) (Bad (skipped + n + 1)) (λ e. IsEscapeWithin e len) (λ _. within) (λ _. within))

choice-within : (b : Bool) (c len : ℕ) (other : Escape) → 1 ≤ len → IsEscapeWithin other len → IsEscapeWithin (cond b (Character c 1) other) len
choice-within b c len other h k = cond_both b (Character c 1) other (λ e. IsEscapeWithin e len) (λ _. h) (λ _. k)

by_letter-within : (c len : ℕ) → 1 ≤ len → IsEscapeWithin (by_letter c) len
by_letter-within c len h =
    let e8 : Escape = Bad 0 in
    let h8 : IsEscapeWithin e8 len = omega arith in
    let e7 : Escape = cond (is_escaped_sign c) (Character c 1) e8 in
    let h7 : IsEscapeWithin e7 len = choice-within (is_escaped_sign c) c len e8 h h8 in
    let e6 : Escape = cond (c ∈ "r") (Character 13 1) e7 in
    let h6 : IsEscapeWithin e6 len = choice-within (c ∈ "r") 13 len e7 h h7 in
    let e5 : Escape = cond (c ∈ "f") (Character 12 1) e6 in
    let h5 : IsEscapeWithin e5 len = choice-within (c ∈ "f") 12 len e6 h h6 in
    let e4 : Escape = cond (c ∈ "v") (Character 11 1) e5 in
    let h4 : IsEscapeWithin e4 len = choice-within (c ∈ "v") 11 len e5 h h5 in
    let e3 : Escape = cond (c ∈ "n") (Character 10 1) e4 in
    let h3 : IsEscapeWithin e3 len = choice-within (c ∈ "n") 10 len e4 h h4 in
    let e2 : Escape = cond (c ∈ "t") (Character 9 1) e3 in
    let h2 : IsEscapeWithin e2 len = choice-within (c ∈ "t") 9 len e3 h h3 in
    let e1 : Escape = cond (c ∈ "b") (Character 8 1) e2 in
    let h1 : IsEscapeWithin e1 len = choice-within (c ∈ "b") 8 len e2 h h2 in
    choice-within (c ∈ "a") 7 len e1 h h1

pub escape-within : (t : List ℕ) → IsEscapeWithin (escape t) (length t)
escape-within [] = omega arith
escape-within (c ∷ t) =
    let len : ℕ = suc (length t) in
    let Q : Escape → Type 0 = λ e. IsEscapeWithin e len in
    let hex : Escape = by_number 1 16 t in
    let octal : Escape = by_number 0 8 (c ∷ t) in
    let same : 0 + len ≡ len = omega arith in
    let same_hex : 1 + length t ≡ len = omega arith in
    cond_both (c == newline) Newline (cond (c ∈ "0" && not (continues_octal t)) (Character 0 1) (cond (is_octal c) octal (cond (c ∈ "x") hex (by_letter c)))) Q (λ _. omega arith)
    (λ _. cond_both (c ∈ "0" && not (continues_octal t)) (Character 0 1) (cond (is_octal c) octal (cond (c ∈ "x") hex (by_letter c))) Q (λ _. omega arith)
    (λ _. cond_both (is_octal c) octal (cond (c ∈ "x") hex (by_letter c)) Q (λ _. subst (λ k. IsEscapeWithin octal k) same (by_number-within 0 8 (c ∷ t)))
    (λ _. cond_both (c ∈ "x") hex (by_letter c) Q (λ _. subst (λ k. IsEscapeWithin hex k) same_hex (by_number-within 1 16 t)) (λ _. by_letter-within c len (omega arith)))))

escaped_character-inside : (e : Escape) (len : ℕ) → IsEscapeWithin e len → IsInside (escaped_character e) (3 + len)
escaped_character-inside (Bad n) len h = omega arith
escaped_character-inside (Character c n) len h = (omega arith, omega (arith, h))
escaped_character-inside Newline len h = omega arith

decoded_character-inside : (o : Option ℕ) (size len : ℕ) → size ≤ len → IsInside (decoded_character (record { char = o; size = size })) (2 + len)
decoded_character-inside None size len h = omega arith
decoded_character-inside (Some c) size len h = (omega arith, omega arith)

quote_character-inside : (rest : List ℕ) → IsInside (quote_character rest) (3 + length rest)
quote_character-inside [] = omega arith
quote_character-inside (c ∷ rest) = cond_both (c == quote) (Token (Int quote) 4) (Refused StrayByte 0) (λ p. IsInside p (3 + suc (length rest))) (λ _. (omega arith, omega arith)) (λ _. omega arith)

character-inside : (t : List ℕ) → IsInside (character t) (2 + length t)
character-inside [] = omega arith
character-inside (c ∷ rest) =
    let n : ℕ = 2 + suc (length rest) in
    let e : 3 + length rest ≡ n = omega arith in
    cond_both (c == backslash) (escaped_character (escape rest)) (cond (c == quote) (quote_character rest) (plain_character (c ∷ rest))) (λ p. IsInside p n)
    (λ _. subst (λ k. IsInside (escaped_character (escape rest)) k) e (escaped_character-inside (escape rest) (length rest) (escape-within rest)))
    (λ _. cond_both (c == quote) (quote_character rest) (plain_character (c ∷ rest)) (λ p. IsInside p n)
    (λ _. subst (λ k. IsInside (quote_character rest) k) e (quote_character-inside rest))
    (λ _. decoded_character-inside (decoded (c ∷ rest)).char (decoded (c ∷ rest)).size (suc (length rest)) (size-within (c ∷ rest))))

number-inside : (before : Before) (c : ℕ) (rest : List ℕ) → is_digit c 10 ≡ true → IsInside (number before (c ∷ rest)) (suc (length rest))
number-inside before c rest digit =
    let t : List ℕ = c ∷ rest in
    let len : ℕ = suc (length rest) in
    let Q : Piece → Type 0 = λ p. IsInside p len in
    let d : Piece = decimal before t in
    let less = length-drop 2 t in
    cond_both (begins "0'" t) (character (drop 2 t)) (cond (begins "0x" t) (radix before 16 t) (cond (begins "0o" t) (radix before 8 t) (cond (begins "0b" t) (radix before 2 t) d))) Q
    (λ h. let some = two 48 39 t h in let e : 2 + length (drop 2 t) ≡ len = omega arith in subst (λ k. IsInside (character (drop 2 t)) k) e (character-inside (drop 2 t)))
    (λ _. cond_both (begins "0x" t) (radix before 16 t) (cond (begins "0o" t) (radix before 8 t) (cond (begins "0b" t) (radix before 2 t) d)) Q (λ h. radix-inside before 16 c rest digit (two 48 120 t h))
    (λ _. cond_both (begins "0o" t) (radix before 8 t) (cond (begins "0b" t) (radix before 2 t) d) Q (λ h. radix-inside before 8 c rest digit (two 48 111 t h))
    (λ _. cond_both (begins "0b" t) (radix before 2 t) d Q (λ h. radix-inside before 2 c rest digit (two 48 98 t h)) (λ _. decimal-inside before c rest digit))))

from-inside : (s : Start) (before : Before) (c : ℕ) (rest : List ℕ) → Begins s c rest → IsInside (piece_from s before (c ∷ rest)) (suc (length rest))
from-inside Layout before c rest h = (run-some is_layout c rest h, run-within is_layout (c ∷ rest))
from-inside LineComment before c rest h = (run-some goes_on c rest (percent-goes_on c h), run-within goes_on (c ∷ rest))
from-inside BlockComment before c rest h =
    let some = two 47 42 (c ∷ rest) h in
    let less = length-drop 2 (c ∷ rest) in
    comment-inside (past_comment (drop 2 (c ∷ rest))) (suc (length rest)) (λ n e. let within = past_comment-within (drop 2 (c ∷ rest)) n e in omega arith)
from-inside SmallLetter before c rest h = (run-some is_alphanumeric c rest (lowercase-alphanumeric c h), run-within is_alphanumeric (c ∷ rest))
from-inside CapitalLetter before c rest h = (run-some is_alphanumeric c rest (capital-alphanumeric c h), run-within is_alphanumeric (c ∷ rest))
from-inside Digit before c rest h = number-inside before c rest h
from-inside ClauseEnd before c rest h = (omega arith, omega arith)
from-inside Symbols before c rest h = (run-some is_symbol c rest h, run-within is_symbol (c ∷ rest))
from-inside Solo before c rest h = (omega arith, omega arith)
from-inside WordQuote before c rest h = quoted_piece-inside (λ bytes. Word bytes) (quoted quote rest) (length rest) (quoted-within quote 0 rest)
from-inside TextQuote before c rest h = quoted_piece-inside (λ bytes. Text bytes) (quoted double_quote rest) (length rest) (quoted-within double_quote 0 rest)
from-inside Bracket before c rest h = (omega arith, omega arith)
from-inside Nothing before c rest h = omega arith

pub piece-inside : (before : Before) (t : List ℕ) → 0 < length t → IsInside (piece before t) (length t)
piece-inside before [] some = absurd (omega (arith, some))
piece-inside before (c ∷ rest) some = from-inside (start (c ∷ rest)) before c rest (begins-start c rest)
