-- A token as the code looks at it, and what it is then as a lexeme.
use Rattle.std.specs.Prelude.{◌≡◌, ℕ, ◌+◌, ◌≤◌, ◌^◌, Bool, true, false, ◌&&◌, ◌==◌, List, [], ◌∷◌, drop, Option, Some, None, ℤ, pos, neg_ℤ, codes}
use Rattle.std.specs.Str.{is_utf8, bytes_eq}
use Rattle.cp_lex.specs.declared.token.Token.{Token}
use Rattle.cp_lex.specs.declared.token.TokenKind.{TokenKind}
use Rattle.cp_lex.specs.declared.token.TokenKind.TheVariants as kinds
use Rattle.cp_read.specs.declared.look.Look.{Look}
use Rattle.cp_read.specs.declared.look.Look.TheVariants as looks
use Rattle.cp_read.specs.declared.operators.Prefix as declared
use Rattle.cp_read.specs.declared.operators.Infix as declared_infix
use Rattle.cp_read.specs.Lexemes.{Lexeme, number, stray, lexeme_by, lexemes, int_at}
use Rattle.cp_read.specs.declared.behind.Behind as declared_behind
use Rattle.cp_read.specs.declared.behind.Behind.TheVariants as signs_behind
use Rattle.cp_read.specs.Grammar.{Prefix, Infix, Behind, closed_by, comma_and, bar_and, neither}

-- the token is what it was taken for
abbrev pub IsLook : Look → TokenKind → Type 0
IsLook (looks.Variable called) kind = kind ≡ kinds.Variable called.now
IsLook (looks.Text bytes) kind = (kind ≡ kinds.Text bytes.now) × (is_utf8 bytes.now ≡ true)
IsLook (looks.Number n) kind = (kind ≡ kinds.Int n) × (n ≤ 2 ^ 63)
IsLook (looks.Word called) kind = (kind ≡ kinds.Word called.now) × (is_utf8 called.now ≡ true)
IsLook looks.CallOpens kind = kind ≡ kinds.OpenCall
IsLook looks.Opens kind = kind ≡ kinds.Punct 40
IsLook looks.Closes kind = kind ≡ kinds.Punct 41
IsLook looks.ListOpens kind = kind ≡ kinds.Punct 91
IsLook looks.ListCloses kind = kind ≡ kinds.Punct 93
IsLook looks.BracesOpen kind = kind ≡ kinds.Punct 123
IsLook looks.BracesClose kind = kind ≡ kinds.Punct 125
IsLook looks.Comma kind = kind ≡ kinds.Punct 44
IsLook looks.Bar kind = kind ≡ kinds.Punct 124
IsLook looks.ClauseEnds kind = kind ≡ kinds.End
IsLook looks.Stray kind = (seen : List (List ℕ)) (t : Token) (ts : List Token) → lexeme_by kind seen t ts ≡ stray

-- what stands in front of these tokens
abbrev pub IsFront : Option Look → List Token → Type 0
IsFront None ts = ts ≡ []
IsFront (Some l) [] = ⊥
IsFront (Some l) (t ∷ ts) = IsLook l t.kind

-- the token is an unquoted `-`
abbrev pub is_minus : Token → Bool
is_minus t = elim (t.kind) [
  | kinds.Word called ↦ bytes_eq called (codes "-") && t.to == t.from + 1
  | kinds.Variable called ↦ false
  | kinds.Int n ↦ false
  | kinds.Text bytes ↦ false
  | kinds.Punct c ↦ false
  | kinds.OpenCall ↦ false
  | kinds.End ↦ false
]

-- the first token is an unquoted `-` with an integer directly behind it
abbrev pub signs : List Token → Bool
signs [] = false
signs (t ∷ ts) = is_minus t && int_at t.to ts

-- The first of these lexemes is an integer.
abbrev pub is_integer : List Lexeme → Bool
is_integer [] = false
is_integer (number n ∷ ls) = true
is_integer (l ∷ ls) = false

-- The negative integer that the first two tokens are: the second is this integer. It is none where the first is no sign, or
-- the integer too large.
abbrev pub IsNegative : Option ℤ → List Token → Type 0
IsNegative (Some i) ts = (signs ts ≡ true) × (n : ℕ) × (i ≡ neg_ℤ (pos n)) × IsFront (Some (looks.Number n)) (drop 1 ts)
IsNegative None ts = (list : List (List ℕ)) → signs ts && is_integer (lexemes list (drop 1 ts)) ≡ false

-- ---- operators

abbrev pub prefix_seen : declared.Prefix → Prefix
prefix_seen op = record { priority = op.priority; right = op.right }

-- the infix operator, with these lexemes behind it
abbrev pub infix_seen : List Lexeme → declared_infix.Infix → Infix
infix_seen rest op = record { name = op.name.now; priority = op.priority; left = op.left; right = op.right; rest = rest }

-- what stands behind a term, with these lexemes behind the sign
abbrev pub IsBehind : declared_behind.Behind → Behind → List Lexeme → Type 0
IsBehind signs_behind.Closes b rest = b ≡ closed_by rest
IsBehind signs_behind.Comma b rest = b ≡ comma_and rest
IsBehind signs_behind.Bar b rest = b ≡ bar_and rest
IsBehind signs_behind.Other b rest = b ≡ neither
