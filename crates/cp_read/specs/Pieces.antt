-- What the quoted text of a term is made of: its tokens, and the spaces between them. This is the project's own.
use Rattle.std.specs.Prelude.{◌≡◌, ℕ, ◌^◌, Bool, true, false, not, ◌||◌, ◌&&◌, ◌==◌, nat_lt, IsTrue, if◌then◌else◌, List, [], ◌∷◌, ◌++◌, Ok, codes, decimal}
use Rattle.std.specs.List.{flat_map}
use Rattle.std.specs.Str.{bytes_eq, is_utf8}
use Rattle.cp_char.specs.Characters.{first, quote, ◌∈◌, is_symbol, is_alphanumeric}
use Rattle.cp_term.specs.declared.cell.Cell.{Cell}
use Rattle.cp_term.specs.declared.cell.Cell.TheVariants.{Var}
use Rattle.cp_term.specs.Numbering.{IsNumbered}
use Rattle.cp_lex.specs.declared.token.Token.{Token}
use Rattle.cp_lex.specs.Lexical.{is_bracket, begins_fraction}
use Rattle.cp_lex.specs.Tokens.{tokens}
use Rattle.cp_ops.specs.Text.{quoting, is_plain, is_small_name, is_symbolic, in_quotes, name_text}
use Rattle.cp_read.specs.Lexemes.{Lexeme, leaf, number, name, call_opens, clause_ends, bracket, lexemes}

pub data Piece : Type 0 where
  -- a variable by its number
  variable : ℕ → Piece
  -- an integer without a sign; a negative one is the name `-` and its digits
  digits : ℕ → Piece
  -- a name, in quotes where it needs them; one that is neither `[]` nor `{}`
  word : List ℕ → Piece
  -- a name in quotes in any case, as `[]` and `{}` are before arguments
  quoted : List ℕ → Piece
  -- one of ( ) [ ] { } , |
  sign : ℕ → Piece
  space : Piece

abbrev pub piece_text : Piece → List ℕ
piece_text (variable n) = codes "_" ++ decimal n
piece_text (digits n) = decimal n
piece_text (word a) = name_text quoting a
piece_text (quoted a) = in_quotes a
piece_text (sign c) = c ∷ []
piece_text space = 32 ∷ []

abbrev pub pieces_text : List Piece → List ℕ
pieces_text ps = flat_map piece_text ps

-- the digits of an integer stand first
abbrev pub begins_digits : List Piece → Bool
begins_digits [] = false
begins_digits (variable n ∷ ps) = false
begins_digits (digits n ∷ ps) = true
begins_digits (word a ∷ ps) = false
begins_digits (quoted a ∷ ps) = false
begins_digits (sign c ∷ ps) = false
begins_digits (space ∷ ps) = false

-- the lexemes of pieces, which stand directly behind a word or do not
abbrev pub spelled : Bool → List Piece → List Lexeme
spelled behind_word [] = []
spelled behind_word (variable n ∷ ps) = leaf (Var n ∷ []) ∷ spelled false ps
spelled behind_word (digits n ∷ ps) = number n ∷ spelled false ps
spelled behind_word (word a ∷ ps) = name a (bytes_eq a (codes "-") && begins_digits ps) ∷ spelled true ps
spelled behind_word (quoted a ∷ ps) = name a false ∷ spelled true ps
spelled behind_word (sign c ∷ ps) = (if behind_word && c ∈ "(" then call_opens else bracket c) ∷ spelled false ps
spelled behind_word (space ∷ ps) = spelled false ps

-- a name ends where this text is behind it
abbrev pub name_ends : List ℕ → List ℕ → Bool
name_ends a text =
    if not (is_plain a) then not (first text == quote)
    else if is_small_name a then not (is_alphanumeric (first text))
    else not (is_symbolic a && is_symbol (first text))

-- this text may stand behind a piece: the token of the piece ends there
abbrev pub may_follow : Piece → List ℕ → Bool
may_follow (variable n) text = not (is_alphanumeric (first text))
may_follow (digits n) text = not (is_alphanumeric (first text)) && not (first text == quote) && not (begins_fraction text)
may_follow (word a) text = name_ends a text
may_follow (quoted a) text = not (first text == quote)
may_follow (sign c) text = true
may_follow space text = true

-- the piece is an unquoted `-`
abbrev pub is_minus : Piece → Bool
is_minus (variable n) = false
is_minus (digits n) = false
is_minus (word a) = bytes_eq a (codes "-")
is_minus (quoted a) = false
is_minus (sign c) = false
is_minus space = false

-- A piece by itself, which stands directly behind an unquoted `-` or does not: variables have numbers of 64 bits, integers
-- have 63 bits or are 2 ^ 63 behind the `-`, and names are UTF-8.
abbrev pub is_sound : Bool → Piece → Bool
is_sound behind_minus (variable n) = nat_lt n (2 ^ 64)
is_sound behind_minus (digits n) = nat_lt n (2 ^ 63) || (behind_minus && n == 2 ^ 63)
is_sound behind_minus (word a) = is_utf8 a && not (bytes_eq a (codes "[]") || bytes_eq a (codes "{}"))
is_sound behind_minus (quoted a) = is_utf8 a
is_sound behind_minus (sign c) = is_bracket c
is_sound behind_minus space = true

-- each piece is sound and ends where the next one begins, or the text behind all of them
abbrev pub are_lawful : Bool → List Piece → List ℕ → Bool
are_lawful behind_minus [] behind = true
are_lawful behind_minus (p ∷ ps) behind = is_sound behind_minus p && may_follow p (pieces_text ps ++ behind) && are_lawful (is_minus p) ps behind

-- the same with a space and a full stop behind them
abbrev pub AreLawful : List Piece → Type 0
AreLawful ps = IsTrue (are_lawful false ps (codes " ."))

-- the variables as cells, in order
abbrev pub variables_of : List Piece → List Cell
variables_of [] = []
variables_of (variable n ∷ ps) = Var n ∷ variables_of ps
variables_of (digits n ∷ ps) = variables_of ps
variables_of (word a ∷ ps) = variables_of ps
variables_of (quoted a ∷ ps) = variables_of ps
variables_of (sign c ∷ ps) = variables_of ps
variables_of (space ∷ ps) = variables_of ps

-- Lawful pieces with their variables numbered by first occurrence, a space and a full stop are read as the lexemes of the
-- pieces and the end of a clause.
abbrev pub PiecesAreRead : Type 0
PiecesAreRead = (ps : List Piece) → AreLawful ps → IsNumbered (variables_of ps) →
    (ts : List Token) × (tokens (pieces_text ps ++ codes " .") ≡ Ok ts) × (lexemes [] ts ≡ spelled false ps ++ clause_ends ∷ [])
