-- The tokens of a text, piece by piece.
use Rattle.std.proofs.Common.{◌≡◌, ℕ, zero, suc, ◌+◌, ◌-◌, ◌<◌, ◌≤◌, true, false, cond, List, [], ◌∷◌, ◌++◌, length, take, drop, refl, sym, ◌∙◌, ap, subst, arith, append_assoc}
use Rattle.std.proofs.lemmas.List.{append-nil}
use Rattle.std.proofs.Math.Nat.{add-zero}
use Rattle.std.specs.Prelude.{◌==◌, Some}
use Rattle.cp_char.specs.Characters.{newline}
use Rattle.cp_lex.specs.declared.error.LexWhy.{LexWhy}
use Rattle.cp_lex.specs.declared.token.TokenKind.{TokenKind}
use Rattle.cp_lex.specs.declared.token.Token.{Token}
use Rattle.cp_lex.specs.declared.token.Scan.{Scan}
use Rattle.cp_lex.specs.declared.before.Before.{Before}
use Rattle.cp_lex.specs.declared.before.Before.TheVariants.{NoWord}
use Rattle.cp_lex.specs.declared.piece.Piece.{Piece}
use Rattle.cp_lex.specs.declared.piece.Piece.TheVariants as pieces
use Rattle.cp_lex.specs.Lexical.{after, piece}
use Rattle.cp_lex.specs.Tokens.{newlines, Place, past, with_token, refused_at, scan_from}
pub use Rattle.cp_lex.specs.Laws.{onto, moved, token_at, from_piece, IsInside}
use Rattle.cp_lex.proofs.lemmas.InsideLaws.{piece-inside}

abbrev pub place : ℕ → ℕ → Place
place at line = record { at = at; line = line }

moved-zero : (text : List ℕ) (p : Place) → p ≡ moved 0 text p
moved-zero text p = λ i. record { at = sym (add-zero (p.at)) i; line = sym (add-zero (p.line)) i }

past_line : (c k : ℕ) (p : Place) → (past c p).line + k ≡ p.line + (cond (c == newline) 1 0 + k)
past_line c k p = elim (c == newline) as (λ b. cond b (suc (p.line)) (p.line) + k ≡ p.line + (cond b 1 0 + k)) [ true ↦ omega arith | false ↦ omega arith ]

pub moved-past : (n c : ℕ) (text : List ℕ) (p : Place) → moved n text (past c p) ≡ moved (suc n) (c ∷ text) p
moved-past n c text p = λ i. record {
  at = (let e : suc (p.at) + n ≡ p.at + suc n = omega arith in e) i;
  line = past_line c (newlines (take n text)) p i;
}

-- the bytes that are left of a piece are passed over
skip : (b : Before) (n : ℕ) (text : List ℕ) (p : Place) → n ≤ length text → scan_from b n p text ≡ scan_from b 0 (moved n text p) (drop n text)
skip b zero text p h = ap (λ q. scan_from b 0 q text) (moved-zero text p)
skip b (suc n) [] p h = absurd (omega (arith, h))
skip b (suc n) (c ∷ text) p h = skip b n text (past c p) (omega (arith, h)) ∙ ap (λ q. scan_from b 0 q (drop n text)) (moved-past n c text p)

piece_step : (b : Before) (pc : Piece) (c : ℕ) (text : List ℕ) (p : Place) → IsInside pc (length (c ∷ text)) → (elim pc as (λ _. Scan) [
  | pieces.Blank n ↦ scan_from NoWord (n - 1) (past c p) text
  | pieces.Token kind n ↦ with_token (record { kind = kind; from = p.at; to = p.at + n; line = p.line }) (scan_from (after kind n) (n - 1) (past c p) text)
  | pieces.Refused why n ↦ refused_at (p.line + newlines (take n (c ∷ text))) why
]) ≡ from_piece pc p (c ∷ text)
piece_step b (pieces.Blank zero) c text p h = absurd (omega (arith, h.0))
piece_step b (pieces.Blank (suc n)) c text p h =
    let e : suc n - 1 ≡ n = omega arith in
    ap (λ k. scan_from NoWord k (past c p) text) e ∙ skip NoWord n text (past c p) (omega (arith, h.1)) ∙ ap (λ q. scan_from NoWord 0 q (drop n text)) (moved-past n c text p)
piece_step b (pieces.Token kind zero) c text p h = absurd (omega (arith, h.0))
piece_step b (pieces.Token kind (suc n)) c text p h =
    let e : suc n - 1 ≡ n = omega arith in
    ap (λ r. with_token (token_at kind (suc n) p) r)
    (ap (λ k. scan_from (after kind (suc n)) k (past c p) text) e ∙ skip (after kind (suc n)) n text (past c p) (omega (arith, h.1)) ∙ ap (λ q. scan_from (after kind (suc n)) 0 q (drop n text)) (moved-past n c text p))
piece_step b (pieces.Refused why n) c text p h = refl

-- the scan from a place on, by the piece that stands there
pub step : (b : Before) (text : List ℕ) (p : Place) → 0 < length text → scan_from b 0 p text ≡ from_piece (piece b text) p text
step b [] p some = absurd (omega (arith, some))
step b (c ∷ text) p some = piece_step b (piece b (c ∷ text)) c text p (piece-inside b (c ∷ text) some)

onto-with_token : (ts : List Token) (t : Token) (s : Scan) → onto ts (with_token t s) ≡ onto (ts ++ t ∷ []) s
onto-with_token ts t s = λ i. record { tokens = sym (append_assoc ts (t ∷ []) s.tokens) i; refusal = s.refusal }

-- the scan of the rest of a text, one piece on
module _ (b : Before) (rest : List ℕ) (p : Place) (some : 0 < length rest) (given : Scan) (ts : List Token) (so_far : onto ts (scan_from b 0 p rest) ≡ given) where
  here_is : (pc : Piece) → pc ≡ piece b rest → onto ts (from_piece pc p rest) ≡ given
  here_is pc here = ap (λ q. onto ts (from_piece q p rest)) here ∙ (ap (λ s. onto ts s) (sym (step b rest p some)) ∙ so_far)

  pub inside_is : (pc : Piece) → pc ≡ piece b rest → IsInside pc (length rest)
  inside_is pc here = subst (λ q. IsInside q (length rest)) (sym here) (piece-inside b rest some)

  pub blank_step : (n : ℕ) → pieces.Blank n ≡ piece b rest → onto ts (scan_from NoWord 0 (moved n rest p) (drop n rest)) ≡ given
  blank_step n here = here_is (pieces.Blank n) here

  pub token_step : (kind : TokenKind) (n : ℕ) → pieces.Token kind n ≡ piece b rest → onto (ts ++ token_at kind n p ∷ []) (scan_from (after kind n) 0 (moved n rest p) (drop n rest)) ≡ given
  token_step kind n here = sym (onto-with_token ts (token_at kind n p) (scan_from (after kind n) 0 (moved n rest p) (drop n rest))) ∙ here_is (pieces.Token kind n) here

  pub refusal_step : (why : LexWhy) (n : ℕ) → pieces.Refused why n ≡ piece b rest → (record { tokens = ts; refusal = Some (record { line = p.line + newlines (take n rest); why = why }) }) ≡ given
  refusal_step why n here =
      (λ i. record { tokens = sym (append-nil ts) i; refusal = Some (record { line = p.line + newlines (take n rest); why = why }) }) ∙ here_is (pieces.Refused why n) here
