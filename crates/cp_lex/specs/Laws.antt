-- Laws of the tokens of a text.
use Rattle.std.specs.Prelude.{◌≡◌, ℕ, suc, ◌+◌, ◌<◌, ◌≤◌, true, List, [], ◌∷◌, ◌++◌, length, take, drop, map, option_map, Ok, codes}
use Rattle.std.specs.Str.{IsUtf8}
use Rattle.cp_char.specs.Characters.{ends_clause}
use Rattle.cp_lex.specs.declared.token.Token.{Token}
use Rattle.cp_lex.specs.declared.token.Refusal.{Refusal}
use Rattle.cp_lex.specs.declared.token.Scan.{Scan}
use Rattle.cp_lex.specs.declared.token.TokenKind.{TokenKind}
use Rattle.cp_lex.specs.declared.token.TokenKind.TheVariants.{End}
use Rattle.cp_lex.specs.declared.before.Before.{Before}
use Rattle.cp_lex.specs.declared.before.Before.TheVariants.{NoWord}
use Rattle.cp_lex.specs.declared.piece.Piece.{Piece}
use Rattle.cp_lex.specs.declared.piece.Piece.TheVariants as pieces
use Rattle.cp_lex.specs.Lexical.{after, piece}
use Rattle.cp_lex.specs.Tokens.{newlines, Place, with_token, refused_at, scan_from, scan, tokens}

-- a token, a refusal and a scan so many bytes and lines further on
abbrev pub moved_token : ℕ → ℕ → Token → Token
moved_token bytes lines t = record { kind = t.kind; from = bytes + t.from; to = bytes + t.to; line = lines + t.line }

abbrev pub moved_refusal : ℕ → Refusal → Refusal
moved_refusal lines r = record { line = lines + r.line; why = r.why }

abbrev pub moved_scan : ℕ → ℕ → Scan → Scan
moved_scan bytes lines s = record { tokens = map (moved_token bytes lines) s.tokens; refusal = option_map (moved_refusal lines) s.refusal }

-- tokens in front of a scan
abbrev pub onto : List Token → Scan → Scan
onto ts s = record { tokens = ts ++ s.tokens; refusal = s.refusal }

-- Reading clause by clause is reading the whole. Where the last token of a text is the full stop at its end, and what
-- follows is empty or begins with layout or `%`, the tokens of both are those of the one and, moved on, those of the other;
-- and what is refused is what is refused in the other.
abbrev pub IsReadClauseByClause : Type 0
IsReadClauseByClause =
    (clause rest : List ℕ) (ts : List Token) (t : Token) → IsUtf8 (clause ++ codes ".") → IsUtf8 rest → ends_clause rest ≡ true
    → tokens (clause ++ codes ".") ≡ Ok (ts ++ t ∷ []) → t.from ≡ length clause
    → scan ((clause ++ codes ".") ++ rest) ≡ onto (ts ++ t ∷ []) (moved_scan (suc (length clause)) (newlines clause) (scan rest))

-- What follows a full stop is read anew. Where an End stands among the tokens of a text, the tokens behind it are those of the
-- text behind it, moved on; and what is refused is what is refused there.
abbrev pub IsReadAnew : Type 0
IsReadAnew =
    (text : List ℕ) (ts us : List Token) (t : Token) → IsUtf8 text → (scan text).tokens ≡ ts ++ t ∷ us → t.kind ≡ End
    → moved_scan t.to (newlines (take t.to text)) (scan (drop t.to text)) ≡ record { tokens = us; refusal = (scan text).refusal }

-- the place behind the first n bytes of a text that begins at p
abbrev pub moved : ℕ → List ℕ → Place → Place
moved n text p = record { at = p.at + n; line = p.line + newlines (take n text) }

abbrev pub token_at : TokenKind → ℕ → Place → Token
token_at kind n p = record { kind = kind; from = p.at; to = p.at + n; line = p.line }

-- the scan of a text from a place on, where this piece stands there
abbrev pub from_piece : Piece → Place → List ℕ → Scan
from_piece (pieces.Blank n) p text = scan_from NoWord 0 (moved n text p) (drop n text)
from_piece (pieces.Token kind n) p text = with_token (token_at kind n p) (scan_from (after kind n) 0 (moved n text p) (drop n text))
from_piece (pieces.Refused why n) p text = refused_at (p.line + newlines (take n text)) why

-- a scan is the piece at its front and the scan behind it
abbrev pub IsScannedByPieces : Type 0
IsScannedByPieces = (before : Before) (text : List ℕ) (p : Place) → 0 < length text → scan_from before 0 p text ≡ from_piece (piece before text) p text

-- a piece takes at least one byte and no more than there are
abbrev pub IsInside : Piece → ℕ → Type 0
IsInside (pieces.Blank n) len = (0 < n) × (n ≤ len)
IsInside (pieces.Token kind n) len = (0 < n) × (n ≤ len)
IsInside (pieces.Refused why n) len = n ≤ len

abbrev pub HasPiecesInside : Type 0
HasPiecesInside = (before : Before) (text : List ℕ) → 0 < length text → IsInside (piece before text) (length text)
