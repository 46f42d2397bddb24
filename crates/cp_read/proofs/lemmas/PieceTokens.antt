-- The token at the front of a text that begins with a piece.
use Rattle.std.proofs.Common.{◌≡◌, ℕ, ◌+◌, ◌<◌, ◌≤◌, ◌^◌, Bool, true, false, cond, List, [], ◌∷◌, ◌++◌, length, take, drop, inl, inr, refl, sym, ◌∙◌, ap, subst, arith, append_assoc}
use Rattle.std.specs.Prelude.{not, ◌||◌, ◌&&◌, ◌==◌, nat_eq, nat_lt, codes, decimal}
use Rattle.std.specs.List.{list_all, flat_map}
use Rattle.std.specs.Char.{is_digit, digit_value, is_ascii_lowercase}
use Rattle.std.specs.Str.{bytes_eq}
use Rattle.std.specs.Str.Parse.{digits_value, AllDigits, IsNumeral}
use Rattle.std.proofs.Math.Seq.{take-append_seam, drop-append_seam}
use Rattle.std.proofs.lemmas.List.{append-nil, length-append}
use Rattle.std.proofs.lemmas.Fmt.{decimal_is_IsNumeral}
use Rattle.std.proofs.lemmas.Bool.{cases_Bool, both_ways, and_parts, and_left, and_right, and_from, and_cases, or_cases, or_parts, or_from, le-ltb, lt-leb, ltb-true, lt-ltb, eqb-true, ne_eqb}
use Rattle.cp_char.specs.Characters.{first, run, begins, ◌∈◌, quote, is_alphanumeric, is_symbol, ends_clause}
use Rattle.cp_lex.specs.declared.token.TokenKind.{TokenKind}
use Rattle.cp_lex.specs.declared.token.TokenKind.TheVariants.{Word, Variable, Int, Text, Punct, OpenCall, End}
use Rattle.cp_lex.specs.Quoted.{quoted}
use Rattle.cp_lex.specs.Lexical.{after, is_bracket, quoted_piece, is_wide, integer, begins_fraction, bracket_token, number, radix, character, piece_from, piece}
use Rattle.cp_lex.specs.Lexical.{decimal as decimal_piece}
use Rattle.cp_lex.specs.Tokens.{Place, with_token, scan_from}
use Rattle.cp_lex.specs.Laws.{moved, token_at, from_piece}
use Rattle.cp_ops.specs.Text.{is_small_name, is_symbolic, quoted_byte, in_quotes}
use Rattle.cp_read.proofs.lemmas.QuotedNames.{quoted-name}
use Rattle.cp_read.proofs.lemmas.PieceFronts.{run-ends, AllOf, one-of, lowercase-alphanumeric, start-small, digits-alphanumeric, digits-digits, no_digit, start-digit, start-symbol, no_two}

-- Behind a token of the kind k and n bytes, the bytes w are a token of this kind where the rest is behind them.
abbrev pub IsFront : TokenKind → ℕ → List ℕ → List ℕ → TokenKind → Type 0
IsFront k n w rest kind =
    (p : Place) → from_piece (piece (after k n) (w ++ rest)) p (w ++ rest)
    ≡ with_token (token_at kind (length w) p) (scan_from (after kind (length w)) 0 (moved (length w) (w ++ rest) p) rest)

-- so many bytes of a text are a token that is made of them
taken : (kind : List ℕ → TokenKind) (m : ℕ) (w rest : List ℕ) (p : Place) → m ≡ length w →
    with_token (token_at (kind (take m (w ++ rest))) m p) (scan_from (after (kind (take m (w ++ rest))) m) 0 (moved m (w ++ rest) p) (drop m (w ++ rest)))
    ≡ with_token (token_at (kind w) (length w) p) (scan_from (after (kind w) (length w)) 0 (moved (length w) (w ++ rest) p) rest)
taken kind m w rest p len =
    let front = take-append_seam w rest in
    let behind = drop-append_seam w rest in
    ap (λ l. with_token (token_at (kind (take l (w ++ rest))) l p) (scan_from (after (kind (take l (w ++ rest))) l) 0 (moved l (w ++ rest) p) (drop l (w ++ rest)))) len
    ∙ (λ i. with_token (token_at (kind (front i)) (length w) p) (scan_from (after (kind (front i)) (length w)) 0 (moved (length w) (w ++ rest) p) (behind i)))

pub variable-front : (k : TokenKind) (n v : ℕ) (rest : List ℕ) → v < 2 ^ 64 → is_alphanumeric (first rest) ≡ false → IsFront k n (codes "_" ++ decimal v) rest (Variable (codes "_" ++ decimal v))
variable-front k n v rest small ends p =
    let w : List ℕ = codes "_" ++ decimal v in
    taken (λ name. Variable name) (run is_alphanumeric (w ++ rest)) w rest p (run-ends is_alphanumeric w rest (digits-alphanumeric (decimal v) (decimal_is_IsNumeral v small).0.1) ends)

pub small-front : (k : TokenKind) (n : ℕ) (a rest : List ℕ) → is_small_name a ≡ true → is_alphanumeric (first rest) ≡ false → IsFront k n a rest (Word a)
small-front k n [] rest small ends p = cc
small-front k n (c ∷ u) rest small ends p =
    let both = and_parts (is_ascii_lowercase c) (list_all is_alphanumeric u) small in
    let t : List ℕ = c ∷ u ++ rest in
    ap (λ s. from_piece (piece_from s (after k n) t) p t) (start-small c (u ++ rest) both.0)
    ∙ taken (λ name. Word name) (run is_alphanumeric t) (c ∷ u) rest p
    (run-ends is_alphanumeric (c ∷ u) rest (and_from (is_alphanumeric c) (list_all is_alphanumeric u) (lowercase-alphanumeric c both.0) both.1) ends)

no_stop : AllOf (λ e. ends_clause (e ∷ []) ≡ false) (codes "+-*/\\^<>=~:.?@#&$")
no_stop = (refl, (refl, (refl, (refl, (refl, (refl, (refl, (refl, (refl, (refl, (refl, (refl, (refl, (refl, (refl, (refl, (refl, tt)))))))))))))))))

-- a name of symbols that is no single full stop ends no clause
no_end : (c : ℕ) (u rest : List ℕ) → list_all is_symbol (c ∷ u) ≡ true → bytes_eq (c ∷ u) (codes ".") ≡ false → (c ∈ "." && ends_clause (u ++ rest)) ≡ false
no_end c [] rest all other = elim (and_cases (c == 46) true other) [
  | inl e ↦ and_left (c ∈ ".") (ends_clause rest) (or_from (c == 46) false e refl)
  | inr e ↦ cc
]
no_end c (d ∷ u) rest all other =
    let both = and_parts (is_symbol c) (is_symbol d && list_all is_symbol u) all in
    let next = and_parts (is_symbol d) (list_all is_symbol u) both.1 in
    and_right (c ∈ ".") (ends_clause (d ∷ u ++ rest)) (one-of (λ e. ends_clause (e ∷ []) ≡ false) (codes "+-*/\\^<>=~:.?@#&$") no_stop d next.0)

no_comment : (c : ℕ) (u rest : List ℕ) → begins "/*" (c ∷ u) ≡ false → is_symbol (first rest) ≡ false → begins "/*" (c ∷ u ++ rest) ≡ false
no_comment c [] [] other ends = other
no_comment c [] (d ∷ rest) other ends =
    and_right (nat_eq 47 c) (nat_eq 42 d && true) (and_left (nat_eq 42 d) true (ne_eqb 42 d (λ e. both_ways (is_symbol d) ends (subst (λ s. is_symbol s ≡ true) e refl))))
no_comment c (d ∷ u) rest other ends = other

pub symbolic-front : (k : TokenKind) (n : ℕ) (a rest : List ℕ) → is_symbolic a ≡ true → (bytes_eq a (codes ".") || begins "/*" a) ≡ false → is_symbol (first rest) ≡ false → IsFront k n a rest (Word a)
symbolic-front k n [] rest symbols plain ends p = cc
symbolic-front k n (c ∷ u) rest symbols plain ends p =
    let both = and_parts (is_symbol c) (list_all is_symbol u) symbols in
    let neither = or_parts (bytes_eq (c ∷ u) (codes ".")) (begins "/*" (c ∷ u)) plain in
    let t : List ℕ = c ∷ u ++ rest in
    ap (λ s. from_piece (piece_from s (after k n) t) p t) (start-symbol c (u ++ rest) both.0 (no_comment c u rest neither.1 ends) (no_end c u rest symbols neither.0))
    ∙ taken (λ name. Word name) (run is_symbol t) (c ∷ u) rest p (run-ends is_symbol (c ∷ u) rest symbols ends)

pub cut-front : (k : TokenKind) (n : ℕ) (rest : List ℕ) → IsFront k n (codes "!") rest (Word (codes "!"))
cut-front k n rest p = refl

pub semicolon-front : (k : TokenKind) (n : ℕ) (rest : List ℕ) → IsFront k n (codes ";") rest (Word (codes ";"))
semicolon-front k n rest p = refl

pub sign-front : (k : TokenKind) (n c : ℕ) (rest : List ℕ) → is_bracket c ≡ true → IsFront k n (c ∷ []) rest (bracket_token (after k n) c)
sign-front k n c rest h =
    one-of (λ d. IsFront k n (d ∷ []) rest (bracket_token (after k n) d)) (codes "()[]{},|")
    ((λ p. refl), ((λ p. refl), ((λ p. refl), ((λ p. refl), ((λ p. refl), ((λ p. refl), ((λ p. refl), ((λ p. refl), tt)))))))) c h

pub quoted-front : (k : TokenKind) (n : ℕ) (a rest : List ℕ) → (first rest == quote) ≡ false → IsFront k n (in_quotes a) rest (Word a)
quoted-front k n a rest ends p =
    let more : List ℕ = flat_map quoted_byte a in
    let t : List ℕ = in_quotes a ++ rest in
    let same = append-nil a in
    let counted : length more + 1 + 1 ≡ length (in_quotes a) = let len = length-append more (quote ∷ []) in omega (arith, len) in
    let behind = drop-append_seam (in_quotes a) rest in
    ap (λ text. from_piece (quoted_piece (λ bytes. Word bytes) (quoted quote text)) p t) (append_assoc more (quote ∷ []) rest)
    ∙ (ap (λ q. from_piece (quoted_piece (λ bytes. Word bytes) q) p t) (quoted-name a rest ends)
    ∙ ((λ i. with_token (token_at (Word (same i)) (counted i) p) (scan_from (after (Word (same i)) (counted i)) 0 (moved (counted i) t p) (drop (counted i) t)))
    ∙ ap (λ behind_it. with_token (token_at (Word a) (length (in_quotes a)) p) (scan_from (after (Word a) (length (in_quotes a))) 0 (moved (length (in_quotes a)) t p) behind_it)) behind))

-- ---- integers

-- the token is an unquoted `-`
abbrev pub behind_minus : TokenKind → ℕ → Bool
behind_minus (Word name) n = n == 1 && bytes_eq name (codes "-")
behind_minus (Variable name) n = false
behind_minus (Int value) n = false
behind_minus (Text bytes) n = false
behind_minus (Punct c) n = false
behind_minus OpenCall n = false
behind_minus End n = false

-- a number of 63 bits, or one more behind the `-`
abbrev pub is_narrow : Bool → ℕ → Bool
is_narrow minus v = nat_lt v (2 ^ 63) || (minus && v == 2 ^ 63)

narrow-alone : (v : ℕ) → is_narrow false v ≡ true → v < 2 ^ 63
narrow-alone v h = elim (or_cases (nat_lt v (2 ^ 63)) false h) [
  | inl low ↦ ltb-true v (2 ^ 63) low
  | inr e ↦ cc
]

pub narrow-most : (minus : Bool) (v : ℕ) → is_narrow minus v ≡ true → v ≤ 2 ^ 63
narrow-most minus v h = elim (or_cases (nat_lt v (2 ^ 63)) (minus && v == 2 ^ 63) h) [
  | inl low ↦ (let l = ltb-true v (2 ^ 63) low in omega (arith, l))
  | inr equal ↦ (let e = eqb-true v (2 ^ 63) (and_parts minus (v == 2 ^ 63) equal).1 in omega (arith, e))
]

narrow-word : (name : List ℕ) (n v : ℕ) → is_narrow (n == 1 && bytes_eq name (codes "-")) v ≡ true → is_wide (after (Word name) n) v ≡ false
narrow-word name n v h = elim (cases_Bool (n == 1 && bytes_eq name (codes "-"))) [
  | inl minus ↦ (let most = narrow-most (n == 1 && bytes_eq name (codes "-")) v h in rw (minus, after) (le-ltb (2 ^ 63) v most))
  | inr other ↦ (let low = narrow-alone v (subst (λ b. is_narrow b v ≡ true) other h) in rw (other, after) (lt-leb (2 ^ 63) v low))
]

narrow : (k : TokenKind) (n v : ℕ) → is_narrow (behind_minus k n) v ≡ true → is_wide (after k n) v ≡ false
narrow (Word name) n v h = narrow-word name n v h
narrow (Variable name) n v h = lt-leb (2 ^ 63) v (narrow-alone v h)
narrow (Int value) n v h = lt-leb (2 ^ 63) v (narrow-alone v h)
narrow (Text bytes) n v h = lt-leb (2 ^ 63) v (narrow-alone v h)
narrow (Punct c) n v h = lt-leb (2 ^ 63) v (narrow-alone v h)
narrow OpenCall n v h = lt-leb (2 ^ 63) v (narrow-alone v h)
narrow End n v h = lt-leb (2 ^ 63) v (narrow-alone v h)

-- no digit is this character, nor what is behind the digits
no_mark : (m : ℕ) (u rest : List ℕ) → AllDigits 10 u → (is_digit m 10 || m == 0) ≡ false → (is_alphanumeric m || m == quote) ≡ true → is_alphanumeric (first rest) ≡ false → (first rest == quote) ≡ false → nat_eq m (first (u ++ rest)) ≡ false
no_mark m [] rest all other mark ends no_quote =
    ne_eqb m (first rest) (λ e. elim (or_cases (is_alphanumeric m) (m == quote) mark) [
      | inl letter ↦ both_ways (is_alphanumeric m) (subst (λ c. is_alphanumeric c ≡ false) (sym e) ends) letter
      | inr is_quote ↦ both_ways (m == quote) (subst (λ c. (c == quote) ≡ false) (sym e) no_quote) is_quote
    ])
no_mark m (d ∷ u) rest all other mark ends no_quote =
    ne_eqb m d (λ e. both_ways (is_digit m 10) (or_parts (is_digit m 10) (m == 0) other).0 (subst (λ c. is_digit c 10 ≡ true) (sym e) (lt-ltb (digit_value d) 10 all.0)))

module _ (k : TokenKind) (n c : ℕ) (u rest : List ℕ) (all : AllDigits 10 (c ∷ u)) (ends : is_alphanumeric (first rest) ≡ false) (no_quote : (first rest == quote) ≡ false) where
  abbrev t : List ℕ
  t = c ∷ u ++ rest

  no_base : (m : ℕ) → (is_digit m 10 || m == 0) ≡ false → (is_alphanumeric m || m == quote) ≡ true → nat_eq m (first (u ++ rest)) ≡ false
  no_base m other mark = no_mark m u rest all.1 other mark ends no_quote

  in_decimal : number (after k n) t ≡ decimal_piece (after k n) t
  in_decimal =
      let e1 = no_two 39 c (u ++ rest) (no_base 39 refl refl) in
      let e2 = no_two 120 c (u ++ rest) (no_base 120 refl refl) in
      let e3 = no_two 111 c (u ++ rest) (no_base 111 refl refl) in
      let e4 = no_two 98 c (u ++ rest) (no_base 98 refl refl) in
      λ i. cond (e1 i) (character (drop 2 t)) (cond (e2 i) (radix (after k n) 16 t) (cond (e3 i) (radix (after k n) 8 t) (cond (e4 i) (radix (after k n) 2 t) (decimal_piece (after k n) t))))

  digits-piece : (v : ℕ) → digits_value 10 (c ∷ u) ≡ v → is_narrow (behind_minus k n) v ≡ true → begins_fraction rest ≡ false → (p : Place) →
      from_piece (decimal_piece (after k n) t) p t ≡ with_token (token_at (Int v) (length (c ∷ u)) p) (scan_from (after (Int v) (length (c ∷ u))) 0 (moved (length (c ∷ u)) t p) rest)
  digits-piece v is fits no_fraction p =
      let m : ℕ = run (λ d. is_digit d 10) t in
      let len : m ≡ length (c ∷ u) = run-ends (λ d. is_digit d 10) (c ∷ u) rest (digits-digits (c ∷ u) all) (no_digit (first rest) ends) in
      let value : digits_value 10 (take m t) ≡ v = ap (λ l. digits_value 10 (take l t)) len ∙ (ap (digits_value 10) (take-append_seam (c ∷ u) rest) ∙ is) in
      let behind : drop m t ≡ rest = ap (λ l. drop l t) len ∙ drop-append_seam (c ∷ u) rest in
      let small : is_wide (after k n) (digits_value 10 (take m t)) ≡ false = ap (λ x. is_wide (after k n) x) value ∙ narrow k n v fits in
      let whole : (not (is_wide (after k n) (digits_value 10 (take m t))) && begins_fraction (drop m t)) ≡ false =
      and_right (not (is_wide (after k n) (digits_value 10 (take m t)))) (begins_fraction (drop m t)) (ap begins_fraction behind ∙ no_fraction) in
      let as_integer : decimal_piece (after k n) t ≡ integer (after k n) (digits_value 10 (take m t)) m = rw (whole, decimal_piece) in
      let as_token : from_piece (integer (after k n) (digits_value 10 (take m t)) m) p t ≡ with_token (token_at (Int (digits_value 10 (take m t))) m p) (scan_from (after (Int (digits_value 10 (take m t))) m) 0 (moved m t p) (drop m t)) = rw (small, integer) in
      ap (λ q. from_piece q p t) as_integer ∙ (as_token
      ∙ (taken (λ ds. Int (digits_value 10 ds)) m (c ∷ u) rest p len
      ∙ ap (λ x. with_token (token_at (Int x) (length (c ∷ u)) p) (scan_from (after (Int x) (length (c ∷ u))) 0 (moved (length (c ∷ u)) t p) rest)) is))

  digits-token : (v : ℕ) → digits_value 10 (c ∷ u) ≡ v → is_narrow (behind_minus k n) v ≡ true → begins_fraction rest ≡ false → IsFront k n (c ∷ u) rest (Int v)
  digits-token v is fits no_fraction p =
      ap (λ s. from_piece (piece_from s (after k n) t) p t) (start-digit c (u ++ rest) all.0)
      ∙ (ap (λ q. from_piece q p t) in_decimal ∙ digits-piece v is fits no_fraction p)

digits-by : (k : TokenKind) (n v : ℕ) (ds rest : List ℕ) → IsNumeral 10 ds → digits_value 10 ds ≡ v → is_narrow (behind_minus k n) v ≡ true → is_alphanumeric (first rest) ≡ false → (first rest == quote) ≡ false → begins_fraction rest ≡ false → IsFront k n ds rest (Int v)
digits-by k n v [] rest numeral is fits ends no_quote no_fraction = absurd (omega (arith, numeral.0))
digits-by k n v (c ∷ u) rest numeral is fits ends no_quote no_fraction = digits-token k n c u rest numeral.1 ends no_quote v is fits no_fraction

pub digits-front : (k : TokenKind) (n v : ℕ) (rest : List ℕ) → is_narrow (behind_minus k n) v ≡ true → is_alphanumeric (first rest) ≡ false → (first rest == quote) ≡ false → begins_fraction rest ≡ false → IsFront k n (decimal v) rest (Int v)
digits-front k n v rest fits ends no_quote no_fraction =
    let most = narrow-most (behind_minus k n) v fits in
    let numeral = decimal_is_IsNumeral v (omega (arith, most)) in
    digits-by k n v (decimal v) rest numeral.0 numeral.1 fits ends no_quote no_fraction
