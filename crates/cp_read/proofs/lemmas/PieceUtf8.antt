-- The text of lawful pieces is UTF-8.
use Rattle.std.proofs.Common.{◌≡◌, ℕ, zero, suc, ◌<◌, ◌≤◌, ◌^◌, Bool, true, List, [], ◌∷◌, ◌++◌, length, get_or, inl, inr, refl, sym, ◌∙◌, ap, subst, arith}
use Rattle.std.specs.Prelude.{not, ◌&&◌, ◌||◌, codes, decimal}
use Rattle.std.specs.Char.{is_ascii, encode_utf8}
use Rattle.std.specs.List.{list_all, flat_map}
use Rattle.std.specs.Str.{bytes_eq, IsUtf8, IsAscii, is_utf8, encode_utf8_all}
use lib.Utf8.{scalar, scalars}
use Rattle.std.proofs.lemmas.Grind.{flat_map-append}
use Rattle.std.proofs.lemmas.List.{append-nil}
use Rattle.std.proofs.lemmas.Fmt.{IsAscii-decimal}
use Rattle.std.proofs.lemmas.Str.{IsUtf8-append, IsUtf8-nil, IsUtf8-from_is_utf8, IsUtf8-from_ascii, IsUtf8-encode, encode_ascii, inside_one}
use Rattle.std.proofs.lemmas.Bool.{cases_lt, cond_both, and_parts, ltb-true, agree_below_at}
use Rattle.cp_char.specs.Characters.{quote}
use Rattle.cp_lex.specs.Lexical.{is_bracket}
use Rattle.cp_ops.specs.Text.{is_plain, quoted_byte, in_quotes}
use Rattle.cp_read.specs.Pieces.{Piece, variable, digits, word, quoted, sign, space, piece_text, pieces_text, is_sound, is_minus, may_follow, are_lawful}
use Rattle.cp_read.proofs.lemmas.PieceFronts.{one-of}
use Rattle.cp_read.proofs.lemmas.PieceTokens.{narrow-most}
use Rattle.cp_read.proofs.lemmas.QuotedNames.{plain-bytes}

ascii-all : (bytes : List ℕ) → list_all is_ascii bytes ≡ true → IsAscii bytes
ascii-all [] all i = omega arith
ascii-all (c ∷ bytes) all zero = ltb-true c 128 (and_parts (is_ascii c) (list_all is_ascii bytes) all).0
ascii-all (c ∷ bytes) all (suc i) = ascii-all bytes (and_parts (is_ascii c) (list_all is_ascii bytes) all).1 i

pub utf8-all : (bytes : List ℕ) → list_all is_ascii bytes ≡ true → IsUtf8 bytes
utf8-all bytes all = IsUtf8-from_ascii bytes (ascii-all bytes all)

byte-ascii : (c : ℕ) → c < 128 → list_all is_ascii (quoted_byte c) ≡ true
byte-ascii c h = agree_below_at (λ d. list_all is_ascii (quoted_byte d)) (λ _. true) 128 c refl h

-- bytes from 128 on stand for themselves
themselves : (bytes : List ℕ) → ((k : ℕ) → k < length bytes → 128 ≤ get_or bytes k 0) → flat_map quoted_byte bytes ≡ bytes
themselves [] high = refl
themselves (c ∷ bytes) high =
    let here : 128 ≤ c = high 0 (omega arith) in
    let one = plain-bytes c (λ e. omega (arith, e, here)) (λ e. omega (arith, e, here)) (omega (arith, here)) (λ e. omega (arith, e, here)) in
    ap (λ own. own ++ flat_map quoted_byte bytes) one ∙ ap (λ more. c ∷ more) (themselves bytes (λ k h. high (suc k) (omega (arith, h))))

wide-bytes : (c : ℕ) → 128 ≤ c → (k : ℕ) → k < length (encode_utf8 c) → 128 ≤ get_or (encode_utf8 c) k 0
wide-bytes c high k h = elim (cases_lt (get_or (encode_utf8 c) k 0) 128) [
  | inl low ↦ (let e = inside_one c [] (encode_utf8 c) k (sym (append-nil (encode_utf8 c))) h low in absurd (omega (arith, e, low, high)))
  | inr high ↦ high
]

character-utf8 : (c : ℕ) → scalar c ≡ true → IsUtf8 (flat_map quoted_byte (encode_utf8 c))
character-utf8 c is_scalar = elim (cases_lt c 128) [
  | inl low ↦
      (let e : flat_map quoted_byte (encode_utf8 c) ≡ quoted_byte c = ap (λ bytes. flat_map quoted_byte bytes) (encode_ascii c low) ∙ append-nil (quoted_byte c) in
      subst IsUtf8 (sym e) (utf8-all (quoted_byte c) (byte-ascii c low)))
  | inr high ↦ subst IsUtf8 (sym (themselves (encode_utf8 c) (wide-bytes c high))) (IsUtf8-encode c is_scalar)
]

characters-utf8 : (cs : List ℕ) → scalars cs ≡ true → IsUtf8 (flat_map quoted_byte (encode_utf8_all cs))
characters-utf8 [] all = IsUtf8-nil
characters-utf8 (c ∷ cs) all =
    let both = and_parts (scalar c) (scalars cs) all in
    subst IsUtf8 (sym (flat_map-append quoted_byte (encode_utf8 c) (encode_utf8_all cs)))
    (IsUtf8-append (flat_map quoted_byte (encode_utf8 c)) (flat_map quoted_byte (encode_utf8_all cs)) (character-utf8 c both.0) (characters-utf8 cs both.1))

in_quotes-utf8 : (a : List ℕ) → is_utf8 a ≡ true → IsUtf8 (in_quotes a)
in_quotes-utf8 a h =
    let utf8 = IsUtf8-from_is_utf8 a h in
    let inner : IsUtf8 (flat_map quoted_byte a) = subst (λ bytes. IsUtf8 (flat_map quoted_byte bytes)) utf8.1.1 (characters-utf8 utf8.0 utf8.1.0) in
    IsUtf8-append (quote ∷ []) (flat_map quoted_byte a ++ quote ∷ []) (utf8-all (quote ∷ []) refl)
    (IsUtf8-append (flat_map quoted_byte a) (quote ∷ []) inner (utf8-all (quote ∷ []) refl))

bracket-ascii : (c : ℕ) → is_bracket c ≡ true → IsUtf8 (c ∷ [])
bracket-ascii c h =
    utf8-all (c ∷ []) (one-of (λ d. list_all is_ascii (d ∷ []) ≡ true) (codes "()[]{},|") (refl, (refl, (refl, (refl, (refl, (refl, (refl, (refl, tt)))))))) c h)

decimal-utf8 : (n : ℕ) → n < 2 ^ 64 → IsUtf8 (decimal n)
decimal-utf8 n small = IsUtf8-from_ascii (decimal n) (IsAscii-decimal n small)

piece-utf8 : (minus : Bool) (p : Piece) → is_sound minus p ≡ true → IsUtf8 (piece_text p)
piece-utf8 minus (variable n) h = IsUtf8-append (codes "_") (decimal n) (utf8-all (codes "_") refl) (decimal-utf8 n (ltb-true n (2 ^ 64) h))
piece-utf8 minus (digits n) h = let most = narrow-most minus n h in decimal-utf8 n (omega (arith, most))
piece-utf8 minus (word a) h =
    let utf8 = (and_parts (is_utf8 a) (not (bytes_eq a (codes "[]") || bytes_eq a (codes "{}"))) h).0 in
    cond_both (is_plain a) a (in_quotes a) IsUtf8 (λ _. IsUtf8-from_is_utf8 a utf8) (λ _. in_quotes-utf8 a utf8)
piece-utf8 minus (quoted a) h = in_quotes-utf8 a h
piece-utf8 minus (sign c) h = bracket-ascii c h
piece-utf8 minus space h = utf8-all (32 ∷ []) refl

pub pieces-utf8 : (minus : Bool) (ps : List Piece) (behind : List ℕ) → are_lawful minus ps behind ≡ true → IsUtf8 (pieces_text ps)
pieces-utf8 minus [] behind h = IsUtf8-nil
pieces-utf8 minus (p ∷ ps) behind h =
    let parts = and_parts (is_sound minus p && may_follow p (pieces_text ps ++ behind)) (are_lawful (is_minus p) ps behind) h in
    let own = and_parts (is_sound minus p) (may_follow p (pieces_text ps ++ behind)) parts.0 in
    IsUtf8-append (piece_text p) (pieces_text ps) (piece-utf8 minus p own.0) (pieces-utf8 (is_minus p) ps behind parts.1)
