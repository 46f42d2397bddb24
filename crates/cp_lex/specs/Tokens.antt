-- The tokens of a text, or the first refusal in it. That the text is no UTF-8 goes before every other refusal.
use Rattle.std.specs.Prelude.{ℕ, zero, suc, ◌+◌, ◌-◌, ◌==◌, if◌then◌else◌, List, [], ◌∷◌, length, take, Some, None, Result, Ok, Err}
use Rattle.std.specs.Str.Lossy.{utf8_valid_len}
use Rattle.cp_lex.specs.declared.error.LexWhy.{LexWhy}
use Rattle.cp_lex.specs.declared.error.LexWhy.TheVariants.{BadUtf8}
use Rattle.cp_lex.specs.declared.token.Token.{Token}
use Rattle.cp_lex.specs.declared.token.Refusal.{Refusal}
use Rattle.cp_lex.specs.declared.token.Scan.{Scan}
use Rattle.cp_lex.specs.declared.before.Before.{Before}
use Rattle.cp_lex.specs.declared.before.Before.TheVariants.{NoWord}
use Rattle.cp_lex.specs.declared.piece.Piece.TheVariants as pieces
use Rattle.cp_char.specs.Characters.{newline}
use Rattle.cp_lex.specs.Lexical.{after, piece}

abbrev pub newlines : List ℕ → ℕ
newlines [] = 0
newlines (c ∷ text) = (if c == newline then 1 else 0) + newlines text

-- a place in the text: the number of bytes before it, and its line
pub record Place : Type 0 where
  pub at : ℕ
  pub line : ℕ

abbrev pub past : ℕ → Place → Place
past c p = record { at = suc (p.at); line = if c == newline then suc (p.line) else p.line }

abbrev pub with_token : Token → Scan → Scan
with_token t s = record { tokens = t ∷ s.tokens; refusal = s.refusal }

abbrev pub refused_at : ℕ → LexWhy → Scan
refused_at line why = record { tokens = []; refusal = Some (record { line = line; why = why }) }

-- The tokens before the first refusal, and that refusal. The number says how many bytes are left of the piece that began
-- before.
abbrev pub scan_from : Before → ℕ → Place → List ℕ → Scan
scan_from before left p [] = record { tokens = []; refusal = None }
scan_from before (suc left) p (c ∷ text) = scan_from before left (past c p) text
scan_from before zero p (c ∷ text) = elim (piece before (c ∷ text)) [
  | pieces.Blank n ↦ scan_from NoWord (n - 1) (past c p) text
  | pieces.Token kind n ↦ with_token (record { kind = kind; from = p.at; to = p.at + n; line = p.line }) (scan_from (after kind n) (n - 1) (past c p) text)
  | pieces.Refused why n ↦ refused_at (p.line + newlines (take n (c ∷ text))) why
]

abbrev pub beginning : Place
beginning = record { at = 0; line = 1 }

-- the scan of a text that is UTF-8
abbrev pub utf8_scan : List ℕ → Scan
utf8_scan text = scan_from NoWord 0 beginning text

abbrev pub scan : List ℕ → Scan
scan text =
    let n = utf8_valid_len text in
    if n == length text then utf8_scan text else refused_at (1 + newlines (take n text)) BadUtf8

-- the tokens of a text where nothing is refused in it, or the first refusal
abbrev pub tokens_or_refusal : Scan → Result (List Token) Refusal
tokens_or_refusal s = elim s.refusal [ None ↦ Ok s.tokens | Some refusal ↦ Err refusal ]

abbrev pub tokens : List ℕ → Result (List Token) Refusal
tokens text = tokens_or_refusal (scan text)
