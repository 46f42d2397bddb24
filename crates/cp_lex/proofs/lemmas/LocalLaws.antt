-- A piece that ends before a full stop does not look at what follows the full stop, where that is empty or begins with
-- layout or `%`.
use Rattle.std.proofs.Common.{◌≡◌, ℕ, zero, suc, ◌+◌, ◌≤◌, Bool, true, false, cond, List, [], ◌∷◌, ◌++◌, length, take, drop, inl, inr, refl, sym, ◌∙◌, ap, subst, arith, Some, None}
use Rattle.std.specs.Prelude.{Option, not, ◌||◌, ◌&&◌, ◌==◌, nat_eq, option_map, encode_utf8}
use Rattle.std.specs.List.{starts_with}
use Rattle.std.specs.Char.{is_digit}
use Rattle.std.specs.Str.Parse.{digits_value}
use Rattle.std.proofs.lemmas.List.{take-append-le, drop-append-le}
use Rattle.std.proofs.lemmas.Bool.{cond_both, cases_Bool, and_parts}
use Rattle.bstr.specs.Utf8.{decoded, pieces, pieces_from}
use Rattle.bstr.proofs.lemmas.PieceLemmas.{pieces-append}
use Rattle.std.proofs.lemmas.Bool.Decides.{nat_tests}
use lib.Utf8.{scalar}
use Rattle.cp_char.specs.Characters.{first, run, begins, ◌∈◌, newline, quote, double_quote, backslash, is_layout, is_alphanumeric, is_symbol, is_octal, ends_clause}
use Rattle.cp_lex.specs.declared.error.LexWhy.TheVariants.{Float, StrayByte}
use Rattle.cp_lex.specs.declared.token.TokenKind.{TokenKind}
use Rattle.cp_lex.specs.declared.token.TokenKind.TheVariants.{Word, Variable, Int, Text}
use Rattle.cp_lex.specs.declared.before.Before.{Before}
use Rattle.cp_lex.specs.declared.start.Start.{Start}
use Rattle.cp_lex.specs.declared.start.Start.TheVariants.{Layout, LineComment, BlockComment, SmallLetter, CapitalLetter, Digit, ClauseEnd, Symbols, Solo, WordQuote, TextQuote, Bracket, Nothing}
use Rattle.cp_lex.specs.declared.piece.Piece.{Piece}
use Rattle.cp_lex.specs.declared.piece.Piece.TheVariants.{Blank, Token, Refused}
use Rattle.cp_lex.specs.declared.escape.Escape.TheVariants.{Bad, Character, Newline}
use Rattle.cp_lex.specs.declared.quoted.Sign.{Sign}
use Rattle.cp_lex.specs.declared.quoted.Sign.TheVariants as signs
use Rattle.cp_lex.specs.declared.quoted.Part.{Part}
use Rattle.cp_lex.specs.declared.quoted.Quoted.{Quoted}
use Rattle.cp_lex.specs.declared.quoted.Quoted.TheVariants.{Closed, BadAt, Unended}
use Rattle.cp_lex.specs.Quoted.{by_number, by_letter, escape, escaped, part_at, onward, misspelt, quoted_from, quoted}
use Rattle.cp_lex.specs.Lexical.{start, goes_on, past_comment, comment, quoted_piece, is_wide, integer, begins_fraction, decimal, radix, escaped_character, quote_character, decoded_character, plain_character, character, number, piece_from, piece}
use Rattle.cp_lex.proofs.lemmas.QuotedLaws.{from_part}

-- a full stop and nothing behind it
abbrev pub stop : List ℕ
stop = 46 ∷ []

-- the piece is one of so many bytes at most
abbrev pub IsBelow : Piece → ℕ → Type 0
IsBelow (Blank n) len = n ≤ len
IsBelow (Token kind n) len = n ≤ len
IsBelow (Refused why n) len = ⊥

first-local : (w ys : List ℕ) → first (w ++ 46 ∷ ys) ≡ first (w ++ stop)
first-local [] ys = refl
first-local (c ∷ w) ys = refl

begins-local : (a b c : ℕ) (w ys : List ℕ) → starts_with nat_eq (c ∷ w ++ 46 ∷ ys) (a ∷ b ∷ []) ≡ starts_with nat_eq (c ∷ w ++ stop) (a ∷ b ∷ [])
begins-local a b c [] ys = refl
begins-local a b c (d ∷ w) ys = refl

take-local : (n : ℕ) (w ys : List ℕ) → n ≤ length w → take n (w ++ 46 ∷ ys) ≡ take n (w ++ stop)
take-local n w ys h = take-append-le n w (46 ∷ ys) h ∙ sym (take-append-le n w stop h)

first-drop-local : (n : ℕ) (w ys : List ℕ) → n ≤ length w → first (drop n (w ++ 46 ∷ ys)) ≡ first (drop n (w ++ stop))
first-drop-local n w ys h = ap first (drop-append-le n w (46 ∷ ys) h) ∙ (first-local (drop n w) ys ∙ sym (ap first (drop-append-le n w stop h)))

-- a run that ends before the full stop
run-local : (test : ℕ → Bool) (w ys : List ℕ) → run test (w ++ stop) ≤ length w → run test (w ++ 46 ∷ ys) ≡ run test (w ++ stop)
run-local test [] ys h = elim (cases_Bool (test 46)) [
  | inl passes ↦ (let e : run test stop ≡ 1 = ap (λ b. cond b (1 + 0) 0) passes in absurd (omega (arith, h, e)))
  | inr fails ↦ ap (λ b. cond b (1 + run test ys) 0) fails ∙ sym (ap (λ b. cond b (1 + 0) 0) fails)
]
run-local test (c ∷ w) ys h = elim (cases_Bool (test c)) [
  | inl passes ↦
      (let e : run test (c ∷ w ++ stop) ≡ 1 + run test (w ++ stop) = ap (λ b. cond b (1 + run test (w ++ stop)) 0) passes in
      ap (λ n. cond (test c) (1 + n) 0) (run-local test w ys (omega (arith, h, e))))
  | inr fails ↦ ap (λ b. cond b (1 + run test (w ++ 46 ∷ ys)) 0) fails ∙ sym (ap (λ b. cond b (1 + run test (w ++ stop)) 0) fails)
]

-- a run that cannot hold a full stop
run-within-stop : (test : ℕ → Bool) (w : List ℕ) → test 46 ≡ false → run test (w ++ stop) ≤ length w
run-within-stop test [] fails = let e : run test stop ≡ 0 = ap (λ b. cond b (1 + 0) 0) fails in omega (arith, e)
run-within-stop test (c ∷ w) fails =
    let rest = run-within-stop test w fails in
    cond_both (test c) (1 + run test (w ++ stop)) 0 (λ n. n ≤ suc (length w)) (λ _. omega (arith, rest)) (λ _. omega arith)

token-local : (kind : List ℕ → TokenKind) (test : ℕ → Bool) (w ys : List ℕ) → run test (w ++ stop) ≤ length w →
    Token (kind (take (run test (w ++ 46 ∷ ys)) (w ++ 46 ∷ ys))) (run test (w ++ 46 ∷ ys)) ≡ Token (kind (take (run test (w ++ stop)) (w ++ stop))) (run test (w ++ stop))
token-local kind test w ys h =
    ap (λ n. Token (kind (take n (w ++ 46 ∷ ys))) n) (run-local test w ys h) ∙ ap (λ xs. Token (kind xs) (run test (w ++ stop))) (take-local (run test (w ++ stop)) w ys h)

-- comments
one_more : (o there : Option ℕ) (m len : ℕ) → ((k : ℕ) → o ≡ Some k → k ≤ len → there ≡ Some k) → option_map (λ n. suc n) o ≡ Some m → m ≤ suc len → option_map (λ n. suc n) there ≡ Some m
one_more None there m len ih e h = cc
one_more (Some k) there m len ih e h = let is : suc k ≡ m = cc in ap (λ o. option_map (λ n. suc n) o) (ih k refl (omega (arith, is, h))) ∙ ap (λ n. Some n) is

past_comment-local : (w ys : List ℕ) (m : ℕ) → past_comment (w ++ stop) ≡ Some m → m ≤ length w → past_comment (w ++ 46 ∷ ys) ≡ Some m
past_comment-local [] ys m e h = cc
past_comment-local (c ∷ w) ys m e h =
    let more : Option ℕ = option_map (λ n. suc n) (past_comment (w ++ stop)) in
    let more_there : Option ℕ = option_map (λ n. suc n) (past_comment (w ++ 46 ∷ ys)) in
    let same : begins "*/" (c ∷ w ++ 46 ∷ ys) ≡ begins "*/" (c ∷ w ++ stop) = begins-local 42 47 c w ys in
    elim (cases_Bool (begins "*/" (c ∷ w ++ stop))) [
      | inl ends ↦ ap (λ b. cond b (Some 2) more_there) (same ∙ ends) ∙ (sym (ap (λ b. cond b (Some 2) more) ends) ∙ e)
      | inr goes ↦ ap (λ b. cond b (Some 2) more_there) (same ∙ goes)
          ∙ one_more (past_comment (w ++ stop)) (past_comment (w ++ 46 ∷ ys)) m (length w) (λ k is within. past_comment-local w ys k is within) (sym (ap (λ b. cond b (Some 2) more) goes) ∙ e) h
    ]

comment-local : (w ys : List ℕ) (o : Option ℕ) → past_comment (w ++ stop) ≡ o → IsBelow (comment o) (2 + length w) → comment (past_comment (w ++ 46 ∷ ys)) ≡ comment o
comment-local w ys None e h = absurd h
comment-local w ys (Some m) e h = ap comment (past_comment-local w ys m e (omega (arith, h)))

block-local : (c : ℕ) (u ys : List ℕ) → IsBelow (comment (past_comment (drop 2 (c ∷ u ++ stop)))) (suc (length u)) → comment (past_comment (drop 2 (c ∷ u ++ 46 ∷ ys))) ≡ comment (past_comment (drop 2 (c ∷ u ++ stop)))
block-local c [] ys h = absurd h
block-local c (d ∷ w) ys h =
    let e : suc (suc (length w)) ≡ 2 + length w = omega arith in
    comment-local w ys (past_comment (w ++ stop)) refl (subst (λ k. IsBelow (comment (past_comment (w ++ stop))) k) e h)

-- escapes
by_number-local : (k base : ℕ) (w ys : List ℕ) → is_digit 46 base ≡ false → by_number k base (w ++ 46 ∷ ys) ≡ by_number k base (w ++ stop)
by_number-local k base w ys fails =
    let test : ℕ → Bool = λ c. is_digit c base in
    let n : ℕ = run test (w ++ stop) in
    let within = run-within-stop test w fails in
    let len = run-local test w ys within in
    let value : digits_value base (take (run test (w ++ 46 ∷ ys)) (w ++ 46 ∷ ys)) ≡ digits_value base (take n (w ++ stop)) =
    ap (λ m. digits_value base (take m (w ++ 46 ∷ ys))) len ∙ ap (digits_value base) (take-local n w ys within) in
    let behind : first (drop (run test (w ++ 46 ∷ ys)) (w ++ 46 ∷ ys)) ≡ first (drop n (w ++ stop)) =
    ap (λ m. first (drop m (w ++ 46 ∷ ys))) len ∙ first-drop-local n w ys within in
    λ i. cond (len i == 0 || not (behind i == backslash)) (Bad 0) (cond (scalar (value i)) (Character (value i) (k + len i + 1)) (Bad (k + len i + 1)))

escape-local : (w ys : List ℕ) → escape (w ++ 46 ∷ ys) ≡ escape (w ++ stop)
escape-local [] ys = refl
escape-local (c ∷ w) ys =
    let next = first-local w ys in
    let octal = by_number-local 0 8 (c ∷ w) ys refl in
    let hex = by_number-local 1 16 w ys refl in
    λ i. cond (c == newline) Newline (cond (c ∈ "0" && not (next i == backslash || is_octal (next i))) (Character 0 1) (cond (is_octal c) (octal i) (cond (c ∈ "x") (hex i) (by_letter c))))

-- quoted texts
abbrev IsClosedBelow : Quoted → ℕ → Type 0
IsClosedBelow (Closed bytes n) len = n ≤ len
IsClosedBelow (BadAt n) len = ⊥
IsClosedBelow Unended len = ⊥

part-local : (mark c : ℕ) (w ys : List ℕ) → part_at mark c (w ++ 46 ∷ ys) ≡ part_at mark c (w ++ stop)
part-local mark c w ys =
    let next = first-local w ys in
    let behind = escape-local w ys in
    λ i. cond (c == backslash) (escaped (behind i)) (cond (not (c == mark)) (record { sign = signs.Byte c; more = 0 })
    (cond (next i == mark) (record { sign = signs.Byte mark; more = 1 }) (record { sign = signs.Closes; more = 0 })))

alone : (mark : ℕ) (s : Sign) (more : ℕ) → IsClosedBelow (from_part (record { sign = s; more = more }) mark []) 0 → ⊥
alone mark signs.Closes more h = omega (arith, h)
alone mark signs.Misspelt more h = h
alone mark (signs.Byte b) more h = h
alone mark (signs.Character d) more h = h
alone mark signs.Nothing more h = h

onward-local : (xs : List ℕ) (q there : Quoted) (len : ℕ) → (IsClosedBelow q len → there ≡ q) → IsClosedBelow (onward xs q) (suc len) → onward xs there ≡ onward xs q
onward-local xs (Closed ys n) there len ih h = ap (onward xs) (ih (omega (arith, h)))
onward-local xs (BadAt n) there len ih h = absurd h
onward-local xs Unended there len ih h = absurd h

misspelt-local : (q there : Quoted) (len : ℕ) → IsClosedBelow (misspelt q) len → misspelt there ≡ misspelt q
misspelt-local (Closed ys n) there len h = absurd h
misspelt-local (BadAt n) there len h = absurd h
misspelt-local Unended there len h = absurd h

from_part-local : (mark : ℕ) (s : Sign) (more : ℕ) (here there : List ℕ) (len : ℕ) → (IsClosedBelow (quoted_from mark more here) len → quoted_from mark more there ≡ quoted_from mark more here) →
    IsClosedBelow (from_part (record { sign = s; more = more }) mark here) (suc len) → from_part (record { sign = s; more = more }) mark there ≡ from_part (record { sign = s; more = more }) mark here
from_part-local mark signs.Closes more here there len ih h = refl
from_part-local mark signs.Misspelt more here there len ih h = misspelt-local (quoted_from mark more here) (quoted_from mark more there) (suc len) h
from_part-local mark (signs.Byte b) more here there len ih h = onward-local (b ∷ []) (quoted_from mark more here) (quoted_from mark more there) len ih h
from_part-local mark (signs.Character d) more here there len ih h = onward-local (encode_utf8 d) (quoted_from mark more here) (quoted_from mark more there) len ih h
from_part-local mark signs.Nothing more here there len ih h = onward-local [] (quoted_from mark more here) (quoted_from mark more there) len ih h

quoted-local : (mark left : ℕ) (w ys : List ℕ) → IsClosedBelow (quoted_from mark left (w ++ stop)) (length w) → quoted_from mark left (w ++ 46 ∷ ys) ≡ quoted_from mark left (w ++ stop)
quoted-local mark (suc left) [] ys h = absurd h
quoted-local mark zero [] ys h = absurd (alone mark (part_at mark 46 []).sign (part_at mark 46 []).more h)
quoted-local mark (suc left) (c ∷ w) ys h = onward-local [] (quoted_from mark left (w ++ stop)) (quoted_from mark left (w ++ 46 ∷ ys)) (length w) (λ k. quoted-local mark left w ys k) h
quoted-local mark zero (c ∷ w) ys h =
    let p : Part = part_at mark c (w ++ stop) in
    ap (λ o. from_part o mark (w ++ 46 ∷ ys)) (part-local mark c w ys)
    ∙ from_part-local mark p.sign p.more (w ++ stop) (w ++ 46 ∷ ys) (length w) (λ k. quoted-local mark (part_at mark c (w ++ stop)).more w ys k) h

quoted_piece-local : (kind : List ℕ → TokenKind) (q there : Quoted) (len : ℕ) → (IsClosedBelow q len → there ≡ q) → IsBelow (quoted_piece kind q) (suc len) → quoted_piece kind there ≡ quoted_piece kind q
quoted_piece-local kind (Closed bytes n) there len ih h = ap (quoted_piece kind) (ih (omega (arith, h)))
quoted_piece-local kind (BadAt n) there len ih h = absurd h
quoted_piece-local kind Unended there len ih h = absurd h

-- a choice by tests that agree
cond-local : (b there : Bool) (x x' y y' : Piece) (len : ℕ) → there ≡ b → (b ≡ true → IsBelow x len → x' ≡ x) → (b ≡ false → IsBelow y len → y' ≡ y) → IsBelow (cond b x y) len →
    cond there x' y' ≡ cond b x y
cond-local true there x x' y y' len same one other h = ap (λ t. cond t x' y') same ∙ one refl h
cond-local false there x x' y y' len same one other h = ap (λ t. cond t x' y') same ∙ other refl h

-- numbers
no_digit : (c : ℕ) → (is_layout c || c ∈ "%") ≡ true → is_digit c 10 ≡ false
no_digit c h = grind (arith, nat_tests)

fraction-local : (w ys : List ℕ) → ends_clause ys ≡ true → begins_fraction (w ++ 46 ∷ ys) ≡ begins_fraction (w ++ stop)
fraction-local [] [] h = refl
fraction-local [] (c ∷ ys) h = no_digit c h
fraction-local (a ∷ []) ys h = refl
fraction-local (a ∷ b ∷ w) ys h = refl

decimal-local : (b : Before) (w ys : List ℕ) → ends_clause ys ≡ true → decimal b (w ++ 46 ∷ ys) ≡ decimal b (w ++ stop)
decimal-local b w ys ends =
    let test : ℕ → Bool = λ c. is_digit c 10 in
    let n : ℕ = run test (w ++ stop) in
    let within = run-within-stop test w refl in
    let len = run-local test w ys within in
    let value : digits_value 10 (take (run test (w ++ 46 ∷ ys)) (w ++ 46 ∷ ys)) ≡ digits_value 10 (take n (w ++ stop)) =
    ap (λ m. digits_value 10 (take m (w ++ 46 ∷ ys))) len ∙ ap (digits_value 10) (take-local n w ys within) in
    let behind : begins_fraction (drop (run test (w ++ 46 ∷ ys)) (w ++ 46 ∷ ys)) ≡ begins_fraction (drop n (w ++ stop)) =
    ap (λ m. begins_fraction (drop m (w ++ 46 ∷ ys))) len ∙ (ap begins_fraction (drop-append-le n w (46 ∷ ys) within) ∙ (fraction-local (drop n w) ys ends ∙ sym (ap begins_fraction (drop-append-le n w stop within)))) in
    λ i. cond (not (is_wide b (value i)) && behind i) (Refused Float 0) (integer b (value i) (len i))

radix-local : (b : Before) (base c d : ℕ) (w ys : List ℕ) → is_digit 46 base ≡ false → ends_clause ys ≡ true → radix b base (c ∷ d ∷ w ++ 46 ∷ ys) ≡ radix b base (c ∷ d ∷ w ++ stop)
radix-local b base c d w ys fails ends =
    let test : ℕ → Bool = λ c. is_digit c base in
    let n : ℕ = run test (w ++ stop) in
    let within = run-within-stop test w fails in
    let len = run-local test w ys within in
    let value : digits_value base (take (run test (w ++ 46 ∷ ys)) (w ++ 46 ∷ ys)) ≡ digits_value base (take n (w ++ stop)) =
    ap (λ m. digits_value base (take m (w ++ 46 ∷ ys))) len ∙ ap (digits_value base) (take-local n w ys within) in
    let alone = decimal-local b (c ∷ d ∷ w) ys ends in
    λ i. cond (len i == 0) (alone i) (integer b (value i) (2 + len i))

radix-marked : (b : Before) (base mark c : ℕ) (u ys : List ℕ) → is_digit 46 base ≡ false → (mark == 46) ≡ false → ends_clause ys ≡ true → starts_with nat_eq (c ∷ u ++ stop) (48 ∷ mark ∷ []) ≡ true →
    radix b base (c ∷ u ++ 46 ∷ ys) ≡ radix b base (c ∷ u ++ stop)
radix-marked b base mark c [] ys fails other ends h =
    let both = and_parts (nat_eq 48 c) (nat_eq mark 46 && true) h in
    let second = and_parts (nat_eq mark 46) true both.1 in cc
radix-marked b base mark c (d ∷ w) ys fails other ends h = radix-local b base c d w ys fails ends

-- the character at the front
decoded-local : (e : ℕ) (w ys : List ℕ) → decoded (e ∷ w ++ 46 ∷ ys) ≡ decoded (e ∷ w)
unfolding pieces_from
decoded-local e w ys =
    let all : pieces (e ∷ w ++ 46 ∷ ys) ≡ pieces (e ∷ w) ++ pieces (46 ∷ ys) = pieces-append (suc (length w)) (e ∷ w) (46 ∷ ys) (omega arith) (λ _. refl) in
    cc

character-local : (w ys : List ℕ) → IsBelow (character (w ++ stop)) (suc (suc (length w))) → character (w ++ 46 ∷ ys) ≡ character (w ++ stop)
character-local [] ys h = absurd (omega (arith, h))
character-local (e ∷ w) ys h =
    let len : ℕ = suc (suc (suc (length w))) in
    cond-local (e == backslash) (e == backslash) (escaped_character (escape (w ++ stop))) (escaped_character (escape (w ++ 46 ∷ ys)))
    (cond (e == quote) (quote_character (w ++ stop)) (plain_character (e ∷ w ++ stop))) (cond (e == quote) (quote_character (w ++ 46 ∷ ys)) (plain_character (e ∷ w ++ 46 ∷ ys))) len refl
    (λ _ _. ap escaped_character (escape-local w ys))
    (λ _ k. cond-local (e == quote) (e == quote) (quote_character (w ++ stop)) (quote_character (w ++ 46 ∷ ys)) (plain_character (e ∷ w ++ stop)) (plain_character (e ∷ w ++ 46 ∷ ys)) len refl
    (λ _ _. ap (λ f. cond (f == quote) (Token (Int quote) 4) (Refused StrayByte 0)) (first-local w ys))
    (λ _ _. ap decoded_character (decoded-local e w ys ∙ sym (decoded-local e w []))) k)
    h

character-marked : (c : ℕ) (u ys : List ℕ) → starts_with nat_eq (c ∷ u ++ stop) (48 ∷ 39 ∷ []) ≡ true → IsBelow (character (drop 2 (c ∷ u ++ stop))) (suc (length u)) →
    character (drop 2 (c ∷ u ++ 46 ∷ ys)) ≡ character (drop 2 (c ∷ u ++ stop))
character-marked c [] ys h k = let both = and_parts (nat_eq 48 c) false h in cc
character-marked c (d ∷ w) ys h k = character-local w ys k

number-local : (b : Before) (c : ℕ) (u ys : List ℕ) → ends_clause ys ≡ true → IsBelow (number b (c ∷ u ++ stop)) (suc (length u)) → number b (c ∷ u ++ 46 ∷ ys) ≡ number b (c ∷ u ++ stop)
number-local b c u ys ends h =
    let t : List ℕ = c ∷ u ++ stop in
    let there : List ℕ = c ∷ u ++ 46 ∷ ys in
    let len : ℕ = suc (length u) in
    let alone = decimal-local b (c ∷ u) ys ends in
    cond-local (begins "0'" t) (begins "0'" there) (character (drop 2 t)) (character (drop 2 there))
    (cond (begins "0x" t) (radix b 16 t) (cond (begins "0o" t) (radix b 8 t) (cond (begins "0b" t) (radix b 2 t) (decimal b t))))
    (cond (begins "0x" there) (radix b 16 there) (cond (begins "0o" there) (radix b 8 there) (cond (begins "0b" there) (radix b 2 there) (decimal b there)))) len (begins-local 48 39 c u ys)
    (λ is k. character-marked c u ys is k)
    (λ _ k. cond-local (begins "0x" t) (begins "0x" there) (radix b 16 t) (radix b 16 there) (cond (begins "0o" t) (radix b 8 t) (cond (begins "0b" t) (radix b 2 t) (decimal b t)))
    (cond (begins "0o" there) (radix b 8 there) (cond (begins "0b" there) (radix b 2 there) (decimal b there))) len (begins-local 48 120 c u ys) (λ is _. radix-marked b 16 120 c u ys refl refl ends is)
    (λ _ k. cond-local (begins "0o" t) (begins "0o" there) (radix b 8 t) (radix b 8 there) (cond (begins "0b" t) (radix b 2 t) (decimal b t)) (cond (begins "0b" there) (radix b 2 there) (decimal b there)) len (begins-local 48 111 c u ys)
    (λ is _. radix-marked b 8 111 c u ys refl refl ends is)
    (λ _ k. cond-local (begins "0b" t) (begins "0b" there) (radix b 2 t) (radix b 2 there) (decimal b t) (decimal b there) len (begins-local 48 98 c u ys) (λ is _. radix-marked b 2 98 c u ys refl refl ends is) (λ _ _. alone) k) k) k) h

-- any piece
start-local : (c : ℕ) (u ys : List ℕ) → start (c ∷ u ++ 46 ∷ ys) ≡ start (c ∷ u ++ stop)
start-local c [] ys = refl
start-local c (d ∷ u) ys = refl

from-local : (s : Start) (b : Before) (c : ℕ) (u ys : List ℕ) → ends_clause ys ≡ true → IsBelow (piece_from s b (c ∷ u ++ stop)) (suc (length u)) → piece_from s b (c ∷ u ++ 46 ∷ ys) ≡ piece_from s b (c ∷ u ++ stop)
from-local Layout b c u ys ends h = ap (λ n. Blank n) (run-local is_layout (c ∷ u) ys h)
from-local LineComment b c u ys ends h = ap (λ n. Blank n) (run-local goes_on (c ∷ u) ys h)
from-local BlockComment b c u ys ends h = block-local c u ys h
from-local SmallLetter b c u ys ends h = token-local (λ name. Word name) is_alphanumeric (c ∷ u) ys h
from-local CapitalLetter b c u ys ends h = token-local (λ name. Variable name) is_alphanumeric (c ∷ u) ys h
from-local Digit b c u ys ends h = number-local b c u ys ends h
from-local ClauseEnd b c u ys ends h = refl
from-local Symbols b c u ys ends h = token-local (λ name. Word name) is_symbol (c ∷ u) ys h
from-local Solo b c u ys ends h = refl
from-local WordQuote b c u ys ends h = quoted_piece-local (λ bytes. Word bytes) (quoted quote (u ++ stop)) (quoted quote (u ++ 46 ∷ ys)) (length u) (λ k. quoted-local quote 0 u ys k) h
from-local TextQuote b c u ys ends h = quoted_piece-local (λ bytes. Text bytes) (quoted double_quote (u ++ stop)) (quoted double_quote (u ++ 46 ∷ ys)) (length u) (λ k. quoted-local double_quote 0 u ys k) h
from-local Bracket b c u ys ends h = refl
from-local Nothing b c u ys ends h = refl

pub piece-local : (b : Before) (c : ℕ) (u ys : List ℕ) → ends_clause ys ≡ true → IsBelow (piece b (c ∷ u ++ stop)) (suc (length u)) → piece b (c ∷ u ++ 46 ∷ ys) ≡ piece b (c ∷ u ++ stop)
piece-local b c u ys ends h = ap (λ s. piece_from s b (c ∷ u ++ 46 ∷ ys)) (start-local c u ys) ∙ from-local (start (c ∷ u ++ stop)) b c u ys ends h
