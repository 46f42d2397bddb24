-- A text whose last token is its full stop, and the text behind it.
use Rattle.std.proofs.Common.{◌≡◌, ℕ, zero, suc, ◌+◌, ◌-◌, ◌<◌, ◌≤◌, Bool, true, false, cond, List, [], ◌∷◌, ◌++◌, length, take, inl, inr, refl, sym, ◌∙◌, ap, subst, arith, Some, None, Ok, append_assoc}
use Rattle.std.specs.Prelude.{Option, ◌==◌}
use Rattle.std.specs.Str.{IsUtf8}
use Rattle.std.specs.Str.Lossy.{utf8_valid_len}
use Rattle.std.proofs.lemmas.Str.{utf8_valid_len-IsUtf8, IsUtf8-append}
use Rattle.std.proofs.lemmas.Bool.{cases_lt, eq-eqb}
use Rattle.std.proofs.lemmas.List.{length-append}
use Rattle.cp_char.specs.Characters.{newline, ends_clause}
use Rattle.cp_lex.specs.declared.error.LexWhy.TheVariants.{BadUtf8}
use Rattle.cp_lex.specs.declared.token.TokenKind.TheVariants.{End}
use Rattle.cp_lex.specs.declared.token.Token.{Token}
use Rattle.cp_lex.specs.declared.token.Refusal.{Refusal}
use Rattle.cp_lex.specs.declared.token.Scan.{Scan}
use Rattle.cp_lex.specs.declared.before.Before.{Before}
use Rattle.cp_lex.specs.declared.before.Before.TheVariants.{NoWord}
use Rattle.cp_lex.specs.declared.start.Start.TheVariants.{ClauseEnd, Symbols}
use Rattle.cp_lex.specs.declared.piece.Piece.{Piece}
use Rattle.cp_lex.specs.declared.piece.Piece.TheVariants as pieces
use Rattle.cp_lex.specs.Lexical.{after, piece, piece_from}
use Rattle.cp_lex.specs.Tokens.{newlines, Place, past, beginning, with_token, refused_at, scan_from, utf8_scan, scan, tokens_or_refusal}
use Rattle.cp_lex.specs.Laws.{moved_scan, onto, IsReadClauseByClause}
use Rattle.cp_lex.proofs.lemmas.ScanLaws.{from_piece, moved, moved-past, step}
use Rattle.cp_lex.proofs.lemmas.LocalLaws.{stop, IsBelow, piece-local}

-- no token begins where all bytes are left of a piece
skipped : (b : Before) (left : ℕ) (p : Place) (text : List ℕ) → length text ≤ left → (scan_from b left p text).tokens ≡ []
skipped b zero p [] h = refl
skipped b (suc left) p [] h = refl
skipped b zero p (c ∷ text) h = absurd (omega (arith, h))
skipped b (suc left) p (c ∷ text) h = skipped b left (past c p) text (omega (arith, h))

pub not_empty : {X : Type 0} (ts : List X) (t : X) → [] ≡ ts ++ t ∷ [] → ⊥
not_empty [] t e = cc
not_empty (u ∷ ts) t e = cc

-- what the scan from a byte on is, by the piece that stands there
abbrev pub from_byte : Piece → Before → Place → ℕ → List ℕ → Scan
from_byte pc b p c text = elim pc [
  | pieces.Blank n ↦ scan_from NoWord (n - 1) (past c p) text
  | pieces.Token kind n ↦ with_token (record { kind = kind; from = p.at; to = p.at + n; line = p.line }) (scan_from (after kind n) (n - 1) (past c p) text)
  | pieces.Refused why n ↦ refused_at (p.line + newlines (take n (c ∷ text))) why
]

-- a scan without refusal whose last token begins at a place
record EndsAt (s : Scan) (ts : List Token) (t : Token) (at : ℕ) : Type 0 where
  accepted : s.refusal ≡ None
  are : s.tokens ≡ ts ++ t ∷ []
  last : t.from ≡ at

-- the scan of a text up to its full stop, and of what follows it
abbrev Joined : Before → ℕ → Place → List ℕ → List ℕ → Type 0
Joined b left p u ys =
    scan_from b left p (u ++ 46 ∷ ys) ≡ onto (scan_from b left p (u ++ stop)).tokens (scan_from NoWord 0 (moved (suc (length u)) (u ++ stop) p) ys)

-- the full stop itself
joined-stop : (b : Before) (p : Place) (ys : List ℕ) → ends_clause ys ≡ true → Joined b 0 p [] ys
joined-stop b p ys ends =
    let here : piece b (46 ∷ ys) ≡ pieces.Token End 1 = ap (λ e. piece_from (cond e ClauseEnd Symbols) b (46 ∷ ys)) ends in
    let some : 0 < length (46 ∷ ys) = omega arith in
    step b (46 ∷ ys) p some ∙ ap (λ pc. from_piece pc p (46 ∷ ys)) here

module _ (b : Before) (p : Place) (c : ℕ) (u ys : List ℕ) where
  abbrev rest_scan : Scan
  rest_scan = scan_from NoWord 0 (moved (suc (suc (length u))) (c ∷ u ++ stop) p) ys

  -- what is joined behind a piece is joined at it
  abbrev Joins : Type 0
  Joins = (d : Before) (left : ℕ) (us : List Token) (v : Token) → EndsAt (scan_from d left (past c p) (u ++ stop)) us v (suc (p.at) + length u) → Joined d left (past c p) u ys

  at_rest : (d : Before) (left : ℕ) → Joined d left (past c p) u ys → scan_from d left (past c p) (u ++ 46 ∷ ys) ≡ onto (scan_from d left (past c p) (u ++ stop)).tokens rest_scan
  at_rest d left joined = joined ∙ ap (λ q. onto (scan_from d left (past c p) (u ++ stop)).tokens (scan_from NoWord 0 q ys)) (moved-past (suc (length u)) c (u ++ stop) p)

  stop_len : length (u ++ stop) ≡ suc (length u)
  stop_len = let e = length-append u stop in omega arith

  join_piece : (ts : List Token) (t : Token) → ends_clause ys ≡ true → (pc : Piece) → pc ≡ piece b (c ∷ u ++ stop) → Joins → EndsAt (from_byte pc b p c (u ++ stop)) ts t (p.at + suc (length u)) →
      from_byte (piece b (c ∷ u ++ 46 ∷ ys)) b p c (u ++ 46 ∷ ys) ≡ onto (from_byte pc b p c (u ++ stop)).tokens rest_scan
  join_piece ts t ends (pieces.Refused why n) is ih h = let no_refusal = h.accepted in cc
  join_piece ts t ends (pieces.Blank n) is ih h = elim (cases_lt (suc (length u)) n) [
    | inl beyond ↦ absurd (not_empty ts t (sym (skipped NoWord (n - 1) (past c p) (u ++ stop) (omega (arith, stop_len, beyond))) ∙ h.are))
    | inr within ↦
        (let same : piece b (c ∷ u ++ 46 ∷ ys) ≡ pieces.Blank n = piece-local b c u ys ends (subst (λ q. IsBelow q (suc (length u))) is within) ∙ sym is in
        let at_is : p.at + suc (length u) ≡ suc (p.at) + length u = omega arith in
        ap (λ q. from_byte q b p c (u ++ 46 ∷ ys)) same ∙ at_rest NoWord (n - 1) (ih NoWord (n - 1) ts t (record { accepted = h.accepted; are = h.are; last = h.last ∙ at_is })))
  ]
  join_piece [] t ends (pieces.Token kind n) is ih h =
      let first_is : record { kind = kind; from = p.at; to = p.at + n; line = p.line } ≡ t = let are = h.are in cc in
      absurd (omega (arith, h.last, ap (λ (v : Token). v.from) first_is))
  join_piece (t1 ∷ ts) t ends (pieces.Token kind n) is ih h =
      let others : (scan_from (after kind n) (n - 1) (past c p) (u ++ stop)).tokens ≡ ts ++ t ∷ [] = let are = h.are in cc in
      elim (cases_lt (suc (length u)) n) [
        | inl beyond ↦ absurd (not_empty ts t (sym (skipped (after kind n) (n - 1) (past c p) (u ++ stop) (omega (arith, stop_len, beyond))) ∙ others))
        | inr within ↦
            (let same : piece b (c ∷ u ++ 46 ∷ ys) ≡ pieces.Token kind n = piece-local b c u ys ends (subst (λ q. IsBelow q (suc (length u))) is within) ∙ sym is in
            let at_is : p.at + suc (length u) ≡ suc (p.at) + length u = omega arith in
            ap (λ q. from_byte q b p c (u ++ 46 ∷ ys)) same
            ∙ ap (λ s. with_token (record { kind = kind; from = p.at; to = p.at + n; line = p.line }) s)
            (at_rest (after kind n) (n - 1) (ih (after kind n) (n - 1) ts t (record { accepted = h.accepted; are = others; last = h.last ∙ at_is }))))
      ]

join : (b : Before) (left : ℕ) (p : Place) (u ys : List ℕ) (ts : List Token) (t : Token) → ends_clause ys ≡ true → EndsAt (scan_from b left p (u ++ stop)) ts t (p.at + length u) → Joined b left p u ys
join b (suc left) p [] ys ts t ends h = absurd (not_empty ts t h.are)
join b zero p [] ys ts t ends h = joined-stop b p ys ends
join b (suc left) p (c ∷ u) ys ts t ends h =
    let at_is : p.at + suc (length u) ≡ suc (p.at) + length u = omega arith in
    join b left (past c p) u ys ts t ends (record { accepted = h.accepted; are = h.are; last = h.last ∙ at_is })
    ∙ ap (λ q. onto (scan_from b left (past c p) (u ++ stop)).tokens (scan_from NoWord 0 q ys)) (moved-past (suc (length u)) c (u ++ stop) p)
join b zero p (c ∷ u) ys ts t ends h =
    join_piece b p c u ys ts t ends (piece b (c ∷ u ++ stop)) refl (λ d left us v k. join d left (past c p) u ys us v ends k) h

-- a scan so many bytes and lines further on
abbrev pub further : ℕ → ℕ → Place → Place
further bytes lines p = record { at = bytes + p.at; line = lines + p.line }

further_line : (lines line : ℕ) (b : Bool) → cond b (suc (lines + line)) (lines + line) ≡ lines + cond b (suc line) line
further_line lines line true = omega arith
further_line lines line false = refl

further-past : (bytes lines c : ℕ) (p : Place) → past c (further bytes lines p) ≡ further bytes lines (past c p)
further-past bytes lines c p = λ i. record {
  at = (let e : suc (bytes + p.at) ≡ bytes + suc (p.at) = omega arith in e) i;
  line = further_line lines p.line (c == newline) i;
}

further_piece : (bytes lines : ℕ) (b : Before) (pc : Piece) (c : ℕ) (p : Place) (text : List ℕ) →
    ((d : Before) (left : ℕ) → scan_from d left (past c (further bytes lines p)) text ≡ moved_scan bytes lines (scan_from d left (past c p) text)) →
    from_byte pc b (further bytes lines p) c text ≡ moved_scan bytes lines (from_byte pc b p c text)
further_piece bytes lines b (pieces.Blank n) c p text ih = ih NoWord (n - 1)
further_piece bytes lines b (pieces.Token kind n) c p text ih =
    let e : bytes + p.at + n ≡ bytes + (p.at + n) = omega arith in
    λ i. with_token (record { kind = kind; from = bytes + p.at; to = e i; line = lines + p.line }) (ih (after kind n) (n - 1) i)
further_piece bytes lines b (pieces.Refused why n) c p text ih =
    let k : ℕ = newlines (take n (c ∷ text)) in
    let e : lines + p.line + k ≡ lines + (p.line + k) = omega arith in
    ap (λ l. refused_at l why) e

pub further-scan : (bytes lines : ℕ) (b : Before) (left : ℕ) (p : Place) (text : List ℕ) → scan_from b left (further bytes lines p) text ≡ moved_scan bytes lines (scan_from b left p text)
further-scan bytes lines b zero p [] = refl
further-scan bytes lines b (suc left) p [] = refl
further-scan bytes lines b (suc left) p (c ∷ text) = ap (λ q. scan_from b left q text) (further-past bytes lines c p) ∙ further-scan bytes lines b left (past c p) text
further-scan bytes lines b zero p (c ∷ text) =
    further_piece bytes lines b (piece b (c ∷ text)) c p text
    (λ d left. ap (λ q. scan_from d left q text) (further-past bytes lines c p) ∙ further-scan bytes lines d left (past c p) text)

-- the lines of a text and a full stop are those of the text
newlines-stop : (u : List ℕ) → newlines (take (suc (length u)) (u ++ stop)) ≡ newlines u
newlines-stop [] = refl
newlines-stop (c ∷ u) = ap (λ n. cond (c == newline) 1 0 + n) (newlines-stop u)

-- a text that is UTF-8
pub scan-utf8 : (text : List ℕ) → IsUtf8 text → scan text ≡ utf8_scan text
scan-utf8 text utf8 =
    ap (λ b. cond b (utf8_scan text) (refused_at (1 + newlines (take (utf8_valid_len text) text)) BadUtf8)) (eq-eqb (utf8_valid_len text) (length text) (utf8_valid_len-IsUtf8 text utf8))

by : (us : List Token) (r : Option Refusal) (ts : List Token) → tokens_or_refusal (record { tokens = us; refusal = r }) ≡ Ok ts → (r ≡ None) × (us ≡ ts)
by us None ts e = (refl, cc)
by us (Some r) ts e = cc

accepts : (s : Scan) (ts : List Token) → tokens_or_refusal s ≡ Ok ts → (s.refusal ≡ None) × (s.tokens ≡ ts)
accepts s ts e = by s.tokens s.refusal ts e

pub read_clause_by_clause : IsReadClauseByClause
read_clause_by_clause u rest ts t utf8 utf8_rest ends reads last =
    let front : List ℕ = u ++ stop in
    let parts = accepts (utf8_scan front) (ts ++ t ∷ []) (sym (ap tokens_or_refusal (scan-utf8 front utf8)) ∙ reads) in
    let ended : EndsAt (utf8_scan front) ts t (0 + length u) = record { accepted = parts.0; are = parts.1; last = omega (arith, last) } in
    let whole : utf8_scan (u ++ 46 ∷ rest) ≡ onto (ts ++ t ∷ []) (scan_from NoWord 0 (moved (suc (length u)) front beginning) rest) =
    join NoWord 0 beginning u rest ts t ends ended ∙ ap (λ us. onto us (scan_from NoWord 0 (moved (suc (length u)) front beginning) rest)) parts.1 in
    let place_is : moved (suc (length u)) front beginning ≡ further (suc (length u)) (newlines u) beginning = λ i. record {
      at = (let e : 0 + suc (length u) ≡ suc (length u) + 0 = omega arith in e) i;
      line = (let e : 1 + newlines (take (suc (length u)) front) ≡ newlines u + 1 = omega (arith, newlines-stop u) in e) i;
    } in
    scan-utf8 (front ++ rest) (IsUtf8-append front rest utf8 utf8_rest)
    ∙ (ap utf8_scan (append_assoc u stop rest) ∙ (whole
    ∙ ap (λ s. onto (ts ++ t ∷ []) s)
    (ap (λ q. scan_from NoWord 0 q rest) place_is ∙ (further-scan (suc (length u)) (newlines u) NoWord 0 beginning rest ∙ ap (moved_scan (suc (length u)) (newlines u)) (sym (scan-utf8 rest utf8_rest))))))
