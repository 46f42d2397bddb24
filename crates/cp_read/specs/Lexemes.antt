-- The tokens as the grammar takes them: without their places, and with the variables numbered by first occurrence.
use Rattle.std.specs.Prelude.{ℕ, suc, ◌+◌, ◌^◌, Bool, true, false, ◌&&◌, ◌==◌, nat_le, if◌then◌else◌, List, [], ◌∷◌, ◌++◌, length, pos, codes}
use Rattle.std.specs.List.{flat_map}
use Rattle.std.specs.Str.{bytes_eq, chars, is_utf8}
use Rattle.cp_term.specs.declared.cell.Cell.{Cell}
use Rattle.cp_term.specs.declared.cell.Cell.TheVariants.{Var, Int, Atom, Func}
use Rattle.cp_char.specs.Characters.{◌∈◌}
use Rattle.cp_lex.specs.declared.token.Token.{Token}
use Rattle.cp_lex.specs.declared.token.TokenKind.{TokenKind}
use Rattle.cp_lex.specs.declared.token.TokenKind.TheVariants as kinds

pub data Lexeme : Type 0 where
  -- a variable or a text in double quotes: a term by itself
  leaf : List Cell → Lexeme
  number : ℕ → Lexeme
  -- a word, and whether it is an unquoted `-` with an integer directly behind it
  name : List ℕ → Bool → Lexeme
  call_opens : Lexeme
  opens : Lexeme
  closes : Lexeme
  list_opens : Lexeme
  list_closes : Lexeme
  braces_open : Lexeme
  braces_close : Lexeme
  comma : Lexeme
  bar : Lexeme
  clause_ends : Lexeme
  -- a token that no text has
  stray : Lexeme

-- `_` is another variable each time
abbrev pub is_anonymous : List ℕ → Bool
is_anonymous called = bytes_eq called (codes "_")

-- the place of a name among those seen, or their number
abbrev pub place_of : List (List ℕ) → List ℕ → ℕ
place_of [] called = 0
place_of (s ∷ seen) called = if bytes_eq s called then 0 else suc (place_of seen called)

-- the number of a variable, behind those seen
abbrev pub variable_number : List (List ℕ) → List ℕ → ℕ
variable_number seen called = if is_anonymous called then length seen else place_of seen called

-- the variables seen behind a token, in order of first occurrence
abbrev pub seen_behind : List (List ℕ) → TokenKind → List (List ℕ)
seen_behind seen (kinds.Variable called) =
    if variable_number seen called == length seen then seen ++ called ∷ [] else seen
seen_behind seen kind = seen

-- the list of the character codes of a text
abbrev pub code_list : List ℕ → List Cell
code_list bytes = flat_map (λ c. Func (codes ".") 2 ∷ Int (pos c) ∷ []) (chars bytes) ++ Atom (codes "[]") ∷ []

abbrev pub bracket : ℕ → Lexeme
bracket c =
    if c ∈ "(" then opens
    else if c ∈ ")" then closes
    else if c ∈ "[" then list_opens
    else if c ∈ "]" then list_closes
    else if c ∈ "{" then braces_open
    else if c ∈ "}" then braces_close
    else if c ∈ "," then comma
    else if c ∈ "|" then bar
    else stray

abbrev pub is_int : TokenKind → Bool
is_int (kinds.Int n) = true
is_int kind = false

-- an integer begins at this place
abbrev pub int_at : ℕ → List Token → Bool
int_at at [] = false
int_at at (t ∷ ts) = is_int (t.kind) && t.from == at

-- an unquoted `-` takes one byte, and a quoted one three
abbrev pub is_sign : Token → List ℕ → List Token → Bool
is_sign t called ts = bytes_eq called (codes "-") && t.to == t.from + 1 && int_at (t.to) ts

-- Words and texts are UTF-8, and an integer is at most 2 ^ 63.
abbrev pub lexeme_by : TokenKind → List (List ℕ) → Token → List Token → Lexeme
lexeme_by (kinds.Word called) seen t ts = if is_utf8 called then name called (is_sign t called ts) else stray
lexeme_by (kinds.Variable called) seen t ts = leaf (Var (variable_number seen called) ∷ [])
lexeme_by (kinds.Int n) seen t ts = if nat_le n (2 ^ 63) then number n else stray
lexeme_by (kinds.Text bytes) seen t ts = if is_utf8 bytes then leaf (code_list bytes) else stray
lexeme_by (kinds.Punct c) seen t ts = bracket c
lexeme_by kinds.OpenCall seen t ts = call_opens
lexeme_by kinds.End seen t ts = clause_ends

-- each token as a lexeme, behind the variables seen
abbrev pub lexemes : List (List ℕ) → List Token → List Lexeme
lexemes seen [] = []
lexemes seen (t ∷ ts) = lexeme_by (t.kind) seen t ts ∷ lexemes (seen_behind seen (t.kind)) ts
