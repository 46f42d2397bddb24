-- The characters of a text by what they begin (ISO/IEC 13211-1, 6.5). A text is the list of its bytes. Each character
-- that has a meaning of its own is one byte, and a byte from 128 on is part of a character past ASCII.
use Rattle.std.specs.Prelude.{ℕ, Bool, true, ◌||◌, ◌==◌, nat_eq, List, [], ◌∷◌, slice_index, codes}
use Rattle.std.specs.List.{list_any, starts_with, prefix_len}
use Rattle.std.specs.Char.{is_ascii_alphanumeric, is_digit}
use Prim.Native.String.{String}

-- the byte is one of these characters
infix 60 ◌∈◌
abbrev pub ◌∈◌ : ℕ → String → Bool
c ∈ s = list_any (λ d. c == d) (codes s)

-- the text begins with these characters
abbrev pub begins : String → List ℕ → Bool
begins s text = starts_with nat_eq text (codes s)

-- the first byte, or 0 where there is none
abbrev pub first : List ℕ → ℕ
first text = slice_index text 0

abbrev pub newline : ℕ
newline = 10

abbrev pub quote : ℕ
quote = 39

abbrev pub double_quote : ℕ
double_quote = 34

abbrev pub backslash : ℕ
backslash = 92

-- space, tab, newline, carriage return and form feed
abbrev pub is_layout : ℕ → Bool
is_layout c = c == 32 || c == 9 || c == newline || c == 13 || c == 12

-- a letter, a digit or the underscore
abbrev pub is_alphanumeric : ℕ → Bool
is_alphanumeric c = is_ascii_alphanumeric c || c ∈ "_"

abbrev pub is_symbol : ℕ → Bool
is_symbol c = c ∈ "+-*/\\^<>=~:.?@#&$"

abbrev pub is_octal : ℕ → Bool
is_octal c = is_digit c 8

-- how many bytes at the front pass the test
abbrev pub run : (ℕ → Bool) → List ℕ → ℕ
run test text = prefix_len test text

-- layout, `%` or the end of the text: what a single full stop has behind it where it ends a clause
abbrev pub ends_clause : List ℕ → Bool
ends_clause [] = true
ends_clause (c ∷ text) = is_layout c || c ∈ "%"
