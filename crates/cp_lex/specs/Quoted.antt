-- Quoted characters (ISO/IEC 13211-1, 6.4.2.1): escapes, and what stands between two quotes.
use Rattle.std.specs.Prelude.{ℕ, zero, suc, ◌+◌, Bool, not, ◌||◌, ◌&&◌, ◌==◌, if◌then◌else◌, List, [], ◌∷◌, ◌++◌, take, drop, encode_utf8}
use Rattle.std.specs.Char.{is_digit}
use Rattle.std.specs.Str.Parse.{digits_value}
use lib.Utf8.{scalar}
use Rattle.cp_char.specs.Characters.{first, run, is_octal, newline, backslash, ◌∈◌}
use Rattle.cp_lex.specs.declared.escape.Escape.{Escape}
use Rattle.cp_lex.specs.declared.escape.Escape.TheVariants.{Bad, Character, Newline}
use Rattle.cp_lex.specs.declared.quoted.Sign.{Sign}
use Rattle.cp_lex.specs.declared.quoted.Sign.TheVariants as signs
use Rattle.cp_lex.specs.declared.quoted.Part.{Part}
use Rattle.cp_lex.specs.declared.quoted.Quoted.{Quoted}
use Rattle.cp_lex.specs.declared.quoted.Quoted.TheVariants.{Closed, BadAt, Unended}

-- A character by number: digits of a base, at least one, and a closing backslash. So many bytes stand between the opening
-- backslash and the digits. Without digits or the closing backslash the opening one alone is no escape; where the number is
-- no character, all of it is.
abbrev pub by_number : ℕ → ℕ → List ℕ → Escape
by_number skipped base text =
    let n = run (λ c. is_digit c base) text in
    let c = digits_value base (take n text) in
    if n == 0 || not (first (drop n text) == backslash) then Bad 0
    else if scalar c then Character c (skipped + n + 1) else Bad (skipped + n + 1)

abbrev pub is_escaped_sign : ℕ → Bool
is_escaped_sign c = c ∈ "\\'\"`"

-- a character by its letter
abbrev pub by_letter : ℕ → Escape
by_letter c =
    if c ∈ "a" then Character 7 1
    else if c ∈ "b" then Character 8 1
    else if c ∈ "t" then Character 9 1
    else if c ∈ "n" then Character 10 1
    else if c ∈ "v" then Character 11 1
    else if c ∈ "f" then Character 12 1
    else if c ∈ "r" then Character 13 1
    else if is_escaped_sign c then Character c 1
    else Bad 0

abbrev pub continues_octal : List ℕ → Bool
continues_octal text = first text == backslash || is_octal (first text)

-- the escape at the front of the bytes behind a backslash
abbrev pub escape : List ℕ → Escape
escape [] = Bad 0
escape (c ∷ text) =
    if c == newline then Newline
    else if c ∈ "0" && not (continues_octal text) then Character 0 1
    else if is_octal c then by_number 0 8 (c ∷ text)
    else if c ∈ "x" then by_number 1 16 text
    else by_letter c

abbrev pub escaped : Escape → Part
escaped (Bad n) = record { sign = signs.Misspelt; more = n }
escaped (Character c n) = record { sign = signs.Character c; more = n }
escaped Newline = record { sign = signs.Nothing; more = 1 }

-- what stands at the front inside a text in these quotes, and how many bytes it takes beside one
abbrev pub part_at : ℕ → ℕ → List ℕ → Part
part_at mark c text =
    if c == backslash then escaped (escape text)
    else if not (c == mark) then record { sign = signs.Byte c; more = 0 }
    else if first text == mark then record { sign = signs.Byte mark; more = 1 }
    else record { sign = signs.Closes; more = 0 }

-- the bytes that a sign stands for
abbrev pub spelled : Sign → List ℕ
spelled signs.Closes = []
spelled signs.Misspelt = []
spelled (signs.Byte c) = c ∷ []
spelled (signs.Character c) = encode_utf8 c
spelled signs.Nothing = []

-- A quoted text with such a byte or escape in front of it, which takes one byte first. The rest of its bytes is counted
-- one by one. What is misspelt counts only where the text is closed, and the first of it counts.
abbrev pub onward : List ℕ → Quoted → Quoted
onward bytes (Closed more n) = Closed (bytes ++ more) (suc n)
onward bytes (BadAt n) = BadAt (suc n)
onward bytes Unended = Unended

abbrev pub misspelt : Quoted → Quoted
misspelt (Closed more n) = BadAt 0
misspelt (BadAt n) = BadAt 0
misspelt Unended = Unended

-- The text up to the closing quote: the bytes that it stands for and how many it takes, the closing quote among them; or
-- how far from its front a backslash begins no escape; or that the text ends first. The number says how many bytes are
-- left of a part that began before.
abbrev pub quoted_from : ℕ → ℕ → List ℕ → Quoted
quoted_from mark left [] = Unended
quoted_from mark (suc left) (c ∷ text) = onward [] (quoted_from mark left text)
quoted_from mark zero (c ∷ text) = elim ((part_at mark c text).sign) [
  | signs.Closes ↦ Closed [] 1
  | signs.Misspelt ↦ misspelt (quoted_from mark ((part_at mark c text).more) text)
  | signs.Byte b ↦ onward (b ∷ []) (quoted_from mark ((part_at mark c text).more) text)
  | signs.Character d ↦ onward (encode_utf8 d) (quoted_from mark ((part_at mark c text).more) text)
  | signs.Nothing ↦ onward [] (quoted_from mark ((part_at mark c text).more) text)
]

-- what stands behind an opening quote
abbrev pub quoted : ℕ → List ℕ → Quoted
quoted mark text = quoted_from mark zero text
