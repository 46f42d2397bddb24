-- The token at the front of a text (ISO/IEC 13211-1, 6.4).
use Rattle.std.specs.Prelude.{ℕ, suc, ◌+◌, ◌^◌, Bool, not, ◌||◌, ◌&&◌, ◌==◌, nat_le, nat_lt, if◌then◌else◌, List, [], ◌∷◌, take, drop, slice_index, Option, Some, None, option_map, codes}
use Rattle.std.specs.Char.{is_ascii_lowercase, is_ascii_uppercase, is_digit}
use Rattle.std.specs.Str.{bytes_eq}
use Rattle.std.specs.Str.Parse.{digits_value}
use Rattle.bstr.specs.Utf8.{Decoded, decoded}
use Rattle.cp_char.specs.Characters.{first, run, begins, ◌∈◌, newline, quote, double_quote, backslash, is_layout, is_alphanumeric, is_symbol, ends_clause}
use Rattle.cp_lex.specs.declared.error.LexWhy.TheVariants.{OpenQuote, OpenComment, BadEscape, WideNumber, Float, StrayByte}
use Rattle.cp_lex.specs.declared.token.TokenKind.{TokenKind}
use Rattle.cp_lex.specs.declared.token.TokenKind.TheVariants.{Word, Variable, Int, Text, Punct, OpenCall, End}
use Rattle.cp_lex.specs.declared.before.Before.{Before}
use Rattle.cp_lex.specs.declared.before.Before.TheVariants.{Minus, OtherWord, NoWord}
use Rattle.cp_lex.specs.declared.start.Start.{Start}
use Rattle.cp_lex.specs.declared.start.Start.TheVariants.{Layout, LineComment, BlockComment, SmallLetter, CapitalLetter, Digit, ClauseEnd, Symbols, Solo, WordQuote, TextQuote, Bracket, Nothing}
use Rattle.cp_lex.specs.declared.piece.Piece.{Piece}
use Rattle.cp_lex.specs.declared.piece.Piece.TheVariants.{Blank, Token, Refused}
use Rattle.cp_lex.specs.declared.escape.Escape.{Escape}
use Rattle.cp_lex.specs.declared.escape.Escape.TheVariants as escapes
use Rattle.cp_lex.specs.declared.quoted.Quoted.{Quoted}
use Rattle.cp_lex.specs.declared.quoted.Quoted.TheVariants.{Closed, BadAt, Unended}
use Rattle.cp_lex.specs.Quoted.{escape, quoted}

-- What a token of so many bytes leaves directly behind it: a Word that is an unquoted `-`, another Word, or something else.
abbrev pub after : TokenKind → ℕ → Before
after (Word name) n = if n == 1 && bytes_eq name (codes "-") then Minus else OtherWord
after (Variable name) n = NoWord
after (Int value) n = NoWord
after (Text bytes) n = NoWord
after (Punct c) n = NoWord
after OpenCall n = NoWord
after End n = NoWord

abbrev pub is_bracket : ℕ → Bool
is_bracket c = c ∈ "()[]{},|"

-- what a character begins that is neither layout nor part of a comment, a name, a number or a symbol
abbrev pub sign : ℕ → Start
sign c =
    if c ∈ "!;" then Solo
    else if c == quote then WordQuote
    else if c == double_quote then TextQuote
    else if is_bracket c then Bracket
    else Nothing

-- what the first character of a text begins
abbrev pub start : List ℕ → Start
start [] = Nothing
start (c ∷ rest) =
    if is_layout c then Layout
    else if c ∈ "%" then LineComment
    else if begins "/*" (c ∷ rest) then BlockComment
    else if is_ascii_lowercase c then SmallLetter
    else if is_ascii_uppercase c || c ∈ "_" then CapitalLetter
    else if is_digit c 10 then Digit
    else if c ∈ "." && ends_clause rest then ClauseEnd
    else if is_symbol c then Symbols
    else sign c

-- a byte that does not end a line
abbrev pub goes_on : ℕ → Bool
goes_on c = not (c == newline)

-- how many bytes there are up to and with the next `*/`
abbrev pub past_comment : List ℕ → Option ℕ
past_comment [] = None
past_comment (c ∷ rest) = if begins "*/" (c ∷ rest) then Some 2 else option_map (λ n. suc n) (past_comment rest)

abbrev pub comment : Option ℕ → Piece
comment None = Refused OpenComment 0
comment (Some n) = Blank (2 + n)

abbrev pub quoted_piece : (List ℕ → TokenKind) → Quoted → Piece
quoted_piece kind (Closed bytes n) = Token (kind bytes) (n + 1)
quoted_piece kind (BadAt n) = Refused BadEscape (n + 1)
quoted_piece kind Unended = Refused OpenQuote 0

-- 63 bits hold the number; one more is allowed directly behind an unquoted `-`
abbrev pub is_wide : Before → ℕ → Bool
is_wide Minus n = nat_lt (2 ^ 63) n
is_wide OtherWord n = nat_le (2 ^ 63) n
is_wide NoWord n = nat_le (2 ^ 63) n

abbrev pub integer : Before → ℕ → ℕ → Piece
integer before value n = if is_wide before value then Refused WideNumber 0 else Token (Int value) n

-- a full stop and a decimal digit
abbrev pub begins_fraction : List ℕ → Bool
begins_fraction text = first text ∈ "." && is_digit (slice_index text 1) 10

abbrev pub decimal : Before → List ℕ → Piece
decimal before t =
    let n = run (λ c. is_digit c 10) t in
    let value = digits_value 10 (take n t) in
    if not (is_wide before value) && begins_fraction (drop n t) then Refused Float 0 else integer before value n

-- The text is `0`, a letter and digits of a base. Without such a digit the `0` stands for itself.
abbrev pub radix : Before → ℕ → List ℕ → Piece
radix before base t =
    let n = run (λ c. is_digit c base) (drop 2 t) in
    if n == 0 then decimal before t else integer before (digits_value base (take n (drop 2 t))) (2 + n)

-- an escape behind `0'`; the one that stands for nothing leaves it without a character
abbrev pub escaped_character : Escape → Piece
escaped_character (escapes.Bad n) = Refused BadEscape 2
escaped_character (escapes.Character c n) = Token (Int c) (3 + n)
escaped_character escapes.Newline = Refused StrayByte 0

-- a quote behind `0'` is written doubled
abbrev pub quote_character : List ℕ → Piece
quote_character rest = if first rest == quote then Token (Int quote) 4 else Refused StrayByte 0

abbrev pub decoded_character : Decoded → Piece
decoded_character d = elim d.char [ None ↦ Refused StrayByte 0 | Some c ↦ Token (Int c) (2 + d.size) ]

abbrev pub plain_character : List ℕ → Piece
plain_character text = decoded_character (decoded text)

-- the character that follows `0'`
abbrev pub character : List ℕ → Piece
character [] = Refused StrayByte 0
character (c ∷ rest) =
    if c == backslash then escaped_character (escape rest) else if c == quote then quote_character rest else plain_character (c ∷ rest)

abbrev pub number : Before → List ℕ → Piece
number before t =
    if begins "0'" t then character (drop 2 t)
    else if begins "0x" t then radix before 16 t
    else if begins "0o" t then radix before 8 t
    else if begins "0b" t then radix before 2 t
    else decimal before t

abbrev pub bracket_token : Before → ℕ → TokenKind
bracket_token NoWord c = Punct c
bracket_token Minus c = if c ∈ "(" then OpenCall else Punct c
bracket_token OtherWord c = if c ∈ "(" then OpenCall else Punct c

-- the longest token that begins so, or what else stands there
abbrev pub piece_from : Start → Before → List ℕ → Piece
piece_from Layout before t = Blank (run is_layout t)
piece_from LineComment before t = Blank (run goes_on t)
piece_from BlockComment before t = comment (past_comment (drop 2 t))
piece_from SmallLetter before t = let n = run is_alphanumeric t in Token (Word (take n t)) n
piece_from CapitalLetter before t = let n = run is_alphanumeric t in Token (Variable (take n t)) n
piece_from Digit before t = number before t
piece_from ClauseEnd before t = Token End 1
piece_from Symbols before t = let n = run is_symbol t in Token (Word (take n t)) n
piece_from Solo before t = Token (Word (take 1 t)) 1
piece_from WordQuote before t = quoted_piece (λ bytes. Word bytes) (quoted quote (drop 1 t))
piece_from TextQuote before t = quoted_piece (λ bytes. Text bytes) (quoted double_quote (drop 1 t))
piece_from Bracket before t = Token (bracket_token before (first t)) 1
piece_from Nothing before t = Refused StrayByte 0

-- What stands at the front of a text: layout or a comment of so many bytes, a token of so many bytes, or something that is
-- refused so many bytes from the front.
abbrev pub piece : Before → List ℕ → Piece
piece before t = piece_from (start t) before t
