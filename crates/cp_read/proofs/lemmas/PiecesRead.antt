-- Lawful pieces, a space and a full stop are read as the lexemes of the pieces and the end of a clause.
use Rattle.std.proofs.Common.{◌≡◌, ℕ, suc, ◌+◌, ◌-◌, ◌<◌, ◌≤◌, ◌^◌, Bool, true, false, cond, List, [], ◌∷◌, ◌++◌, length, take, inl, inr, refl, sym, ◌∙◌, ap, subst, arith, append_assoc, None, Ok}
use Rattle.std.specs.Prelude.{not, ◌&&◌, ◌||◌, ◌==◌, nat_eq, nat_lt, Option, codes, decimal}
use Rattle.std.specs.List.{flat_map}
use Rattle.std.specs.Str.{bytes_eq, IsUtf8, is_utf8}
use Rattle.std.specs.Str.Lossy.{utf8_valid_len}
use Rattle.std.proofs.lemmas.List.{length-append}
use Rattle.std.proofs.lemmas.Slice.Eq.{bytes_eq-Decides}
use Rattle.std.proofs.lemmas.Str.{utf8_valid_len-IsUtf8, IsUtf8-append}
use Rattle.std.proofs.lemmas.Fmt.{decimal_nonempty}
use Rattle.std.proofs.lemmas.Bool.{cases_Bool, cond_both, both_ways, and_parts, and_left, and_right, or_cases, or_parts, ltb-true, le-leb, eqb-true, eq-eqb, ne_eqb, not-true}
use Rattle.cp_char.specs.Characters.{first, run, begins, ◌∈◌, quote, is_layout, is_alphanumeric, is_symbol}
use Rattle.cp_term.specs.declared.cell.Cell.{Cell}
use Rattle.cp_term.specs.declared.cell.Cell.TheVariants.{Var}
use Rattle.cp_lex.specs.declared.error.LexWhy.TheVariants.{BadUtf8}
use Rattle.cp_term.specs.Numbering.{is_numbered_from}
use Rattle.cp_lex.specs.declared.token.Token.{Token}
use Rattle.cp_lex.specs.declared.token.Refusal.{Refusal}
use Rattle.cp_lex.specs.declared.token.Scan.{Scan}
use Rattle.cp_lex.specs.declared.token.TokenKind.{TokenKind}
use Rattle.cp_lex.specs.declared.token.TokenKind.TheVariants.{Word, Variable, Int, Text, Punct, OpenCall, End}
use Rattle.cp_lex.specs.Lexical.{after, is_bracket, begins_fraction, bracket_token}
use Rattle.cp_lex.specs.Tokens.{Place, past, newlines, beginning, with_token, refused_at, scan_from, utf8_scan, scan, tokens_or_refusal}
use Rattle.cp_lex.specs.Laws.{moved, token_at, IsScannedByPieces}
use Rattle.cp_ops.specs.Text.{quoting, is_plain, is_small_name, is_symbolic, quoted_byte, in_quotes, name_text}
use Rattle.cp_read.specs.Lexemes.{Lexeme, leaf, number, name, call_opens, clause_ends, bracket, stray, variable_number, seen_behind, is_int, int_at, lexeme_by, lexemes}
use Rattle.cp_read.specs.Pieces.{Piece, variable, digits, word, quoted, sign, space, pieces_text, begins_digits, spelled, name_ends, is_sound, is_minus, may_follow, are_lawful, variables_of, PiecesAreRead}
use Rattle.cp_read.proofs.lemmas.NumberedNames.{names, variable_name, known-number, known-seen, new-number, new-seen}
use Rattle.cp_read.proofs.lemmas.PieceTokens.{IsFront, variable-front, small-front, symbolic-front, cut-front, semicolon-front, sign-front, quoted-front, behind_minus, is_narrow, narrow-most, digits-front}
use Rattle.cp_read.proofs.lemmas.PieceUtf8.{utf8-all, pieces-utf8}

-- no token begins before this place
abbrev IsFrom : ℕ → List Token → Type 0
IsFrom at [] = Unit {0}
IsFrom at (t ∷ ts) = at ≤ t.from

-- what is read from a place on: these lexemes, and whether an integer begins right there
pub record Reads (seen : List (List ℕ)) (at : ℕ) (ls : List Lexeme) (number_first : Bool) (s : Scan) : Type 0 where
  pub accepted : s.refusal ≡ None
  pub are : lexemes seen s.tokens ≡ ls
  pub first_is : int_at at s.tokens ≡ number_first
  pub later : IsFrom at s.tokens

abbrev behind_word : TokenKind → Bool
behind_word (Word called) = true
behind_word (Variable called) = false
behind_word (Int value) = false
behind_word (Text bytes) = false
behind_word (Punct c) = false
behind_word OpenCall = false
behind_word End = false

-- ---- one token

and_given : (x y : Bool) → (x ≡ true → y ≡ true) → (x && y) ≡ x
and_given true y h = h refl
and_given false y h = refl

and_same : (x y : Bool) → y ≡ true → (x && y) ≡ x
and_same true y h = h
and_same false y h = refl

-- a token that is read as this lexeme, where an integer begins directly behind it or not
abbrev IsLexeme : TokenKind → List (List ℕ) → ℕ → ℕ → Bool → Lexeme → Type 0
IsLexeme kind seen at len number_next l =
    (line : ℕ) (ts : List Token) → int_at (at + len) ts ≡ number_next → lexeme_by kind seen (record { kind = kind; from = at; to = at + len; line = line }) ts ≡ l

module _ (scanned : IsScannedByPieces) (k : TokenKind) (n : ℕ) (w rest : List ℕ) (kind : TokenKind) (p : Place) (some : 0 < length w) (front : IsFront k n w rest kind) where
  token-scan : scan_from (after k n) 0 p (w ++ rest) ≡ with_token (token_at kind (length w) p) (scan_from (after kind (length w)) 0 (moved (length w) (w ++ rest) p) rest)
  token-scan = let len = length-append w rest in scanned (after k n) (w ++ rest) p (omega (arith, len, some)) ∙ front p

  token-reads : (seen behind : List (List ℕ)) (ls : List Lexeme) (l : Lexeme) (number_next : Bool) → seen_behind seen kind ≡ behind → IsLexeme kind seen p.at (length w) number_next l →
      Reads behind (p.at + length w) ls number_next (scan_from (after kind (length w)) 0 (moved (length w) (w ++ rest) p) rest) →
      Reads seen p.at (l ∷ ls) (is_int kind) (scan_from (after k n) 0 p (w ++ rest))
  token-reads seen behind ls l number_next seen_is lexeme_is r =
      let s : Scan = scan_from (after kind (length w)) 0 (moved (length w) (w ++ rest) p) rest in
      let t : Token = token_at kind (length w) p in
      let here : Reads seen p.at (l ∷ ls) (is_int kind) (with_token t s) = record {
        accepted = r.accepted;
        are = (λ i. lexeme_is p.line s.tokens r.first_is i ∷ lexemes (seen_is i) s.tokens) ∙ ap (λ more. l ∷ more) r.are;
        first_is = and_same (is_int kind) (p.at == p.at) (eq-eqb p.at p.at refl);
        later = omega arith;
      } in
      subst (λ q. Reads seen p.at (l ∷ ls) (is_int kind) q) (sym token-scan) here

-- ---- spaces

layout-step : (d : ℕ) (rest : List ℕ) (q : Place) → is_layout d ≡ true → scan_from (after End 0) 0 q (d ∷ rest) ≡ scan_from (after End 0) (1 + run is_layout rest - 1) (past d q) rest
layout-step d rest q layout = rw (layout, scan_from) (ap (λ b. scan_from (after End 0) (cond b (1 + run is_layout rest) 0 - 1) (past d q) rest) layout)

layout-run : (rest : List ℕ) (q : Place) → scan_from (after End 0) (run is_layout rest) q rest ≡ scan_from (after End 0) 0 q rest
layout-run [] q = refl
layout-run (d ∷ rest) q = elim (cases_Bool (is_layout d)) [
  | inl layout ↦
      (let here : run is_layout (d ∷ rest) ≡ suc (run is_layout rest) = (let e : 1 + run is_layout rest ≡ suc (run is_layout rest) = omega arith in ap (λ b. cond b (1 + run is_layout rest) 0) layout ∙ e) in
      let left : run is_layout rest ≡ 1 + run is_layout rest - 1 = omega arith in
      ap (λ m. scan_from (after End 0) m q (d ∷ rest)) here ∙ (ap (λ m. scan_from (after End 0) m (past d q) rest) left ∙ sym (layout-step d rest q layout)))
  | inr other ↦ ap (λ m. scan_from (after End 0) m q (d ∷ rest)) (ap (λ b. cond b (1 + run is_layout rest) 0) other)
]

space-scan : (k : TokenKind) (n : ℕ) (rest : List ℕ) (p : Place) → scan_from (after k n) 0 p (32 ∷ rest) ≡ scan_from (after End 0) 0 (past 32 p) rest
space-scan k n rest p =
    let e : 1 + run is_layout rest - 1 ≡ run is_layout rest = omega arith in
    ap (λ m. scan_from (after End 0) m (past 32 p) rest) e ∙ layout-run rest (past 32 p)

no_integer : (at : ℕ) (ts : List Token) → IsFrom (suc at) ts → int_at at ts ≡ false
no_integer at [] later = refl
no_integer at (t ∷ ts) later = and_right (is_int t.kind) (t.from == at) (ne_eqb t.from at (λ e. omega (arith, e, later)))

earlier : (at : ℕ) (ts : List Token) → IsFrom (suc at) ts → IsFrom at ts
earlier at [] later = tt
earlier at (t ∷ ts) later = omega (arith, later)

space-reads : (k : TokenKind) (n : ℕ) (rest : List ℕ) (p : Place) (seen : List (List ℕ)) (ls : List Lexeme) (number_next : Bool) →
    Reads seen (suc p.at) ls number_next (scan_from (after End 0) 0 (past 32 p) rest) → Reads seen p.at ls false (scan_from (after k n) 0 p (32 ∷ rest))
space-reads k n rest p seen ls number_next r =
    let s : Scan = scan_from (after End 0) 0 (past 32 p) rest in
    let here : Reads seen p.at ls false s = record {
      accepted = r.accepted;
      are = r.are;
      first_is = no_integer p.at s.tokens r.later;
      later = earlier p.at s.tokens r.later;
    } in
    subst (λ q. Reads seen p.at ls false q) (sym (space-scan k n rest p)) here

-- ---- names

abbrev own_end : Bool → List ℕ → List ℕ → Bool
own_end small a rest = cond small (not (is_alphanumeric (first rest))) (not (is_symbolic a && is_symbol (first rest)))

-- a name that needs no quotes and is none of small letters, digits and underscores
odd-front : (k : TokenKind) (n : ℕ) (a rest : List ℕ) → (bytes_eq a (codes "[]") || bytes_eq a (codes "{}")) ≡ false → is_small_name a ≡ false → is_plain a ≡ true → (is_symbolic a && is_symbol (first rest)) ≡ false → IsFront k n a rest (Word a)
odd-front k n a rest others odd plain ends =
    let none = or_parts (bytes_eq a (codes "[]")) (bytes_eq a (codes "{}")) others in
    let symbols : Bool = is_symbolic a && not (bytes_eq a (codes ".") || begins "/*" a) in
    elim (or_cases (is_small_name a || symbols || bytes_eq a (codes "[]") || bytes_eq a (codes "{}") || bytes_eq a (codes "!")) (bytes_eq a (codes ";")) plain) [
      | inr e ↦ subst (λ w. IsFront k n w rest (Word w)) (sym ((bytes_eq-Decides a (codes ";")).0 e)) (semicolon-front k n rest)
      | inl e5 ↦ elim (or_cases (is_small_name a || symbols || bytes_eq a (codes "[]") || bytes_eq a (codes "{}")) (bytes_eq a (codes "!")) e5) [
        | inr e ↦ subst (λ w. IsFront k n w rest (Word w)) (sym ((bytes_eq-Decides a (codes "!")).0 e)) (cut-front k n rest)
        | inl e4 ↦ elim (or_cases (is_small_name a || symbols || bytes_eq a (codes "[]")) (bytes_eq a (codes "{}")) e4) [
          | inr e ↦ absurd (both_ways (bytes_eq a (codes "{}")) none.1 e)
          | inl e3 ↦ elim (or_cases (is_small_name a || symbols) (bytes_eq a (codes "[]")) e3) [
            | inr e ↦ absurd (both_ways (bytes_eq a (codes "[]")) none.0 e)
            | inl e2 ↦ elim (or_cases (is_small_name a) symbols e2) [
              | inl e ↦ absurd (both_ways (is_small_name a) odd e)
              | inr e ↦
                  (let both = and_parts (is_symbolic a) (not (bytes_eq a (codes ".") || begins "/*" a)) e in
                  symbolic-front k n a rest both.0 (not-true (bytes_eq a (codes ".") || begins "/*" a) both.1) (sym (ap (λ b. b && is_symbol (first rest)) both.0) ∙ ends))
            ]
          ]
        ]
      ]
    ]

plain-front : (k : TokenKind) (n : ℕ) (a rest : List ℕ) → (bytes_eq a (codes "[]") || bytes_eq a (codes "{}")) ≡ false → is_plain a ≡ true → own_end (is_small_name a) a rest ≡ true → IsFront k n a rest (Word a)
plain-front k n a rest others plain ends = elim (cases_Bool (is_small_name a)) [
  | inl small ↦ small-front k n a rest small (not-true (is_alphanumeric (first rest)) (subst (λ b. own_end b a rest ≡ true) small ends))
  | inr odd ↦ odd-front k n a rest others odd plain (not-true (is_symbolic a && is_symbol (first rest)) (subst (λ b. own_end b a rest ≡ true) odd ends))
]

-- a name as it is written, where what is behind it ends it
name-front : (k : TokenKind) (n : ℕ) (a rest : List ℕ) → (bytes_eq a (codes "[]") || bytes_eq a (codes "{}")) ≡ false → name_ends a rest ≡ true → IsFront k n (name_text quoting a) rest (Word a)
name-front k n a rest others ends = elim (cases_Bool (is_plain a)) [
  | inl plain ↦
      (let e : name_text quoting a ≡ a = ap (λ b. cond b a (in_quotes a)) plain in
      subst (λ w. IsFront k n w rest (Word a)) (sym e)
      (plain-front k n a rest others plain (subst (λ b. cond (not b) (not (first rest == quote)) (own_end (is_small_name a) a rest) ≡ true) plain ends)))
  | inr in_need ↦
      (let e : name_text quoting a ≡ in_quotes a = ap (λ b. cond b a (in_quotes a)) in_need in
      subst (λ w. IsFront k n w rest (Word a)) (sym e)
      (quoted-front k n a rest (not-true (first rest == quote) (subst (λ b. cond (not b) (not (first rest == quote)) (own_end (is_small_name a) a rest) ≡ true) in_need ends))))
]

length-quotes : (a : List ℕ) → 2 ≤ length (in_quotes a)
length-quotes a = let len = length-append (flat_map quoted_byte a) (quote ∷ []) in omega (arith, len)

plain-some : (a : List ℕ) → is_plain a ≡ true → 0 < length a
plain-some [] h = cc
plain-some (c ∷ a) h = omega arith

name-some : (a : List ℕ) → 0 < length (name_text quoting a)
name-some a = cond_both (is_plain a) a (in_quotes a) (λ w. 0 < length w) (λ h. plain-some a h) (λ _. let len = length-quotes a in omega (arith, len))

-- the text of `-` has one byte
minus-length : (a : List ℕ) → bytes_eq a (codes "-") ≡ true → length (name_text quoting a) ≡ 1
minus-length a h = ap (λ w. length (name_text quoting w)) ((bytes_eq-Decides a (codes "-")).0 h)

minus-behind : (a : List ℕ) → behind_minus (Word a) (length (name_text quoting a)) ≡ is_minus (word a)
minus-behind a = elim (cases_Bool (bytes_eq a (codes "-"))) [
  | inl minus ↦ ap (λ len. len == 1 && bytes_eq a (codes "-")) (minus-length a minus)
  | inr other ↦ and_right (length (name_text quoting a) == 1) (bytes_eq a (codes "-")) other ∙ sym other
]

no_minus-behind : (a : List ℕ) → behind_minus (Word a) (length (in_quotes a)) ≡ false
no_minus-behind a = let len = length-quotes a in and_left (length (in_quotes a) == 1) (bytes_eq a (codes "-")) (ne_eqb (length (in_quotes a)) 1 (λ e. omega (arith, e, len)))

word-lexeme : (a : List ℕ) (seen : List (List ℕ)) (at len : ℕ) (number_next : Bool) → is_utf8 a ≡ true → (bytes_eq a (codes "-") ≡ true → len ≡ 1) → IsLexeme (Word a) seen at len number_next (name a (bytes_eq a (codes "-") && number_next))
word-lexeme a seen at len number_next utf8 one line ts next =
    let beside : (bytes_eq a (codes "-") && (at + len == at + 1)) ≡ bytes_eq a (codes "-") = and_given (bytes_eq a (codes "-")) (at + len == at + 1) (λ h. eq-eqb (at + len) (at + 1) (ap (λ l. at + l) (one h))) in
    λ i. cond (utf8 i) (name a (beside i && next i)) stray

quoted-lexeme : (a : List ℕ) (seen : List (List ℕ)) (at len : ℕ) (number_next : Bool) → is_utf8 a ≡ true → 2 ≤ len → IsLexeme (Word a) seen at len number_next (name a false)
quoted-lexeme a seen at len number_next utf8 two line ts next =
    let apart : (bytes_eq a (codes "-") && (at + len == at + 1)) ≡ false = and_right (bytes_eq a (codes "-")) (at + len == at + 1) (ne_eqb (at + len) (at + 1) (λ e. omega (arith, e, two))) in
    λ i. cond (utf8 i) (name a (apart i && int_at (at + len) ts)) stray

-- ---- pieces

-- these pieces are read from a place on, behind a token of the kind k and n bytes and so many variables
abbrev ReadFrom : TokenKind → ℕ → ℕ → Place → List Piece → Type 0
ReadFrom k n count p ps = Reads (names count) p.at (spelled (behind_word k) ps ++ clause_ends ∷ []) (begins_digits ps) (scan_from (after k n) 0 p (pieces_text ps ++ codes " ."))

abbrev text_behind : List Piece → List ℕ
text_behind ps = pieces_text ps ++ codes " ."

sign-kind : (k : TokenKind) (n c : ℕ) → bracket_token (after k n) c ≡ cond (behind_word k && c ∈ "(") OpenCall (Punct c)
sign-kind (Word called) n c = elim (cases_Bool (n == 1 && bytes_eq called (codes "-"))) [
  | inl minus ↦ rw (minus, after)
  | inr other ↦ rw (other, after)
]
sign-kind (Variable called) n c = refl
sign-kind (Int value) n c = refl
sign-kind (Text bytes) n c = refl
sign-kind (Punct d) n c = refl
sign-kind OpenCall n c = refl
sign-kind End n c = refl

module _ (scanned : IsScannedByPieces) (k : TokenKind) (n count : ℕ) (p : Place) (ps : List Piece) where
  -- the place behind so many bytes
  abbrev onward_by : List ℕ → Place
  onward_by w = moved (length w) (w ++ text_behind ps) p

  -- one token in front
  token-step : (w : List ℕ) (kind : TokenKind) (l : Lexeme) (after_it : ℕ) → 0 < length w → IsFront k n w (text_behind ps) kind → seen_behind (names count) kind ≡ names after_it →
      IsLexeme kind (names count) p.at (length w) (begins_digits ps) l → ReadFrom kind (length w) after_it (onward_by w) ps →
      Reads (names count) p.at (l ∷ spelled (behind_word kind) ps ++ clause_ends ∷ []) (is_int kind) (scan_from (after k n) 0 p ((w ++ pieces_text ps) ++ codes " ."))
  token-step w kind l after_it some front seen_is lexeme_is r =
      subst (λ text. Reads (names count) p.at (l ∷ spelled (behind_word kind) ps ++ clause_ends ∷ []) (is_int kind) (scan_from (after k n) 0 p text)) (sym (append_assoc w (pieces_text ps) (codes " .")))
      (token-reads scanned k n w (text_behind ps) kind p some front (names count) (names after_it) (spelled (behind_word kind) ps ++ clause_ends ∷ []) l (begins_digits ps) seen_is lexeme_is r)

  variable-step : (v after_it : ℕ) → v < 2 ^ 64 → is_alphanumeric (first (text_behind ps)) ≡ false → seen_behind (names count) (Variable (variable_name v)) ≡ names after_it → variable_number (names count) (variable_name v) ≡ v →
      ReadFrom (Variable (variable_name v)) (length (variable_name v)) after_it (onward_by (variable_name v)) ps → ReadFrom k n count p (variable v ∷ ps)
  variable-step v after_it small ends seen_is number_is r =
      token-step (variable_name v) (Variable (variable_name v)) (leaf (Var v ∷ [])) after_it (omega arith) (variable-front k n v (text_behind ps) small ends) seen_is
      (λ line ts next. ap (λ m. leaf (Var m ∷ [])) number_is) r

  digits-step : (v : ℕ) → is_narrow (behind_minus k n) v ≡ true → may_follow (digits v) (text_behind ps) ≡ true →
      ReadFrom (Int v) (length (decimal v)) count (onward_by (decimal v)) ps → ReadFrom k n count p (digits v ∷ ps)
  digits-step v fits follows r =
      let most = narrow-most (behind_minus k n) v fits in
      let parts = and_parts (not (is_alphanumeric (first (text_behind ps))) && not (first (text_behind ps) == quote)) (not (begins_fraction (text_behind ps))) follows in
      let ends = and_parts (not (is_alphanumeric (first (text_behind ps)))) (not (first (text_behind ps) == quote)) parts.0 in
      token-step (decimal v) (Int v) (number v) count (decimal_nonempty v (omega (arith, most)))
      (digits-front k n v (text_behind ps) fits (not-true (is_alphanumeric (first (text_behind ps))) ends.0) (not-true (first (text_behind ps) == quote) ends.1) (not-true (begins_fraction (text_behind ps)) parts.1)) refl
      (λ line ts next. ap (λ b. cond b (number v) stray) (le-leb v (2 ^ 63) most)) r

  word-step : (a : List ℕ) → (is_utf8 a && not (bytes_eq a (codes "[]") || bytes_eq a (codes "{}"))) ≡ true → name_ends a (text_behind ps) ≡ true →
      ReadFrom (Word a) (length (name_text quoting a)) count (onward_by (name_text quoting a)) ps → ReadFrom k n count p (word a ∷ ps)
  word-step a sound ends r =
      let both = and_parts (is_utf8 a) (not (bytes_eq a (codes "[]") || bytes_eq a (codes "{}"))) sound in
      token-step (name_text quoting a) (Word a) (name a (bytes_eq a (codes "-") && begins_digits ps)) count (name-some a)
      (name-front k n a (text_behind ps) (not-true (bytes_eq a (codes "[]") || bytes_eq a (codes "{}")) both.1) ends) refl
      (word-lexeme a (names count) p.at (length (name_text quoting a)) (begins_digits ps) both.0 (minus-length a)) r

  quoted-step : (a : List ℕ) → is_utf8 a ≡ true → (first (text_behind ps) == quote) ≡ false →
      ReadFrom (Word a) (length (in_quotes a)) count (onward_by (in_quotes a)) ps → ReadFrom k n count p (quoted a ∷ ps)
  quoted-step a utf8 ends r =
      let two = length-quotes a in
      token-step (in_quotes a) (Word a) (name a false) count (omega (arith, two)) (quoted-front k n a (text_behind ps) ends) refl
      (quoted-lexeme a (names count) p.at (length (in_quotes a)) (begins_digits ps) utf8 two) r

  space-step : ReadFrom End 0 count (past 32 p) ps → ReadFrom k n count p (space ∷ ps)
  space-step r = space-reads k n (text_behind ps) p (names count) (spelled false ps ++ clause_ends ∷ []) (begins_digits ps) r

  sign-step : (c : ℕ) → is_bracket c ≡ true → ReadFrom End 0 count (onward_by (c ∷ [])) ps → ReadFrom k n count p (sign c ∷ ps)
  sign-step c is_sign_byte r =
      let more : List Lexeme = spelled false ps ++ clause_ends ∷ [] in
      let scanned_text : Scan = scan_from (after k n) 0 p (c ∷ text_behind ps) in
      let front = sign-front k n c (text_behind ps) is_sign_byte in
      elim (cases_Bool (behind_word k && c ∈ "(")) [
        | inl call ↦
            (let kind_is : bracket_token (after k n) c ≡ OpenCall = sign-kind k n c ∙ ap (λ b. cond b OpenCall (Punct c)) call in
            subst (λ b. Reads (names count) p.at (cond b call_opens (bracket c) ∷ more) false scanned_text) (sym call)
            (token-step (c ∷ []) OpenCall call_opens count (omega arith) (subst (λ kind. IsFront k n (c ∷ []) (text_behind ps) kind) kind_is front) refl (λ line ts next. refl) r))
        | inr other ↦
            (let kind_is : bracket_token (after k n) c ≡ Punct c = sign-kind k n c ∙ ap (λ b. cond b OpenCall (Punct c)) other in
            subst (λ b. Reads (names count) p.at (cond b call_opens (bracket c) ∷ more) false scanned_text) (sym other)
            (token-step (c ∷ []) (Punct c) (bracket c) count (omega arith) (subst (λ kind. IsFront k n (c ∷ []) (text_behind ps) kind) kind_is front) refl (λ line ts next. refl) r))
      ]

-- what a piece and those behind it are by themselves
module _ (minus : Bool) (x : Piece) (ps : List Piece) (lawful : are_lawful minus (x ∷ ps) (codes " .") ≡ true) where
  parts : ((is_sound minus x && may_follow x (text_behind ps)) ≡ true) × (are_lawful (is_minus x) ps (codes " .") ≡ true)
  parts = and_parts (is_sound minus x && may_follow x (text_behind ps)) (are_lawful (is_minus x) ps (codes " .")) lawful

  sound : is_sound minus x ≡ true
  sound = (and_parts (is_sound minus x) (may_follow x (text_behind ps)) parts.0).0

  follows : may_follow x (text_behind ps) ≡ true
  follows = (and_parts (is_sound minus x) (may_follow x (text_behind ps)) parts.0).1

  rest-lawful : are_lawful (is_minus x) ps (codes " .") ≡ true
  rest-lawful = parts.1

read-from : IsScannedByPieces → (k : TokenKind) (n count : ℕ) (p : Place) (ps : List Piece) → count ≤ 2 ^ 64 → are_lawful (behind_minus k n) ps (codes " .") ≡ true → is_numbered_from count (variables_of ps) ≡ true → ReadFrom k n count p ps
read-from scanned k n count p [] small lawful numbered = record { accepted = refl; are = refl; first_is = refl; later = omega arith }
read-from scanned k n count p (variable v ∷ ps) small lawful numbered =
    let low : v < 2 ^ 64 = ltb-true v (2 ^ 64) (sound (behind_minus k n) (variable v) ps lawful) in
    let ends = not-true (is_alphanumeric (first (text_behind ps))) (follows (behind_minus k n) (variable v) ps lawful) in
    let rest = rest-lawful (behind_minus k n) (variable v) ps lawful in
    let w : List ℕ = variable_name v in
    let place : Place = moved (length w) (w ++ text_behind ps) p in
    let more : List Cell = variables_of ps in
    elim (cases_Bool (nat_lt v count)) [
      | inl known ↦
          (let within : v < count = ltb-true v count known in
          let same = subst (λ b. cond b (is_numbered_from count more) (nat_eq v count && is_numbered_from (suc count) more) ≡ true) known numbered in
          variable-step scanned k n count p ps v count low ends (known-seen count v within small) (known-number count v within small)
          (read-from scanned (Variable w) (length w) count place ps small rest same))
      | inr fresh ↦
          (let both = and_parts (nat_eq v count) (is_numbered_from (suc count) more) (subst (λ b. cond b (is_numbered_from count more) (nat_eq v count && is_numbered_from (suc count) more) ≡ true) fresh numbered) in
          let e : v ≡ count = eqb-true v count both.0 in
          variable-step scanned k n count p ps v (suc count) low ends (subst (λ m. seen_behind (names m) (Variable w) ≡ names (suc m)) e (new-seen v low)) (subst (λ m. variable_number (names m) w ≡ v) e (new-number v low))
          (read-from scanned (Variable w) (length w) (suc count) place ps (omega (arith, e, low)) rest both.1))
    ]
read-from scanned k n count p (digits v ∷ ps) small lawful numbered =
    digits-step scanned k n count p ps v (sound (behind_minus k n) (digits v) ps lawful) (follows (behind_minus k n) (digits v) ps lawful)
    (read-from scanned (Int v) (length (decimal v)) count (moved (length (decimal v)) (decimal v ++ text_behind ps) p) ps small (rest-lawful (behind_minus k n) (digits v) ps lawful) numbered)
read-from scanned k n count p (word a ∷ ps) small lawful numbered =
    let w : List ℕ = name_text quoting a in
    word-step scanned k n count p ps a (sound (behind_minus k n) (word a) ps lawful) (follows (behind_minus k n) (word a) ps lawful)
    (read-from scanned (Word a) (length w) count (moved (length w) (w ++ text_behind ps) p) ps small
    (subst (λ b. are_lawful b ps (codes " .") ≡ true) (sym (minus-behind a)) (rest-lawful (behind_minus k n) (word a) ps lawful)) numbered)
read-from scanned k n count p (quoted a ∷ ps) small lawful numbered =
    let w : List ℕ = in_quotes a in
    quoted-step scanned k n count p ps a (sound (behind_minus k n) (quoted a) ps lawful) (not-true (first (text_behind ps) == quote) (follows (behind_minus k n) (quoted a) ps lawful))
    (read-from scanned (Word a) (length w) count (moved (length w) (w ++ text_behind ps) p) ps small
    (subst (λ b. are_lawful b ps (codes " .") ≡ true) (sym (no_minus-behind a)) (rest-lawful (behind_minus k n) (quoted a) ps lawful)) numbered)
read-from scanned k n count p (sign c ∷ ps) small lawful numbered =
    sign-step scanned k n count p ps c (sound (behind_minus k n) (sign c) ps lawful)
    (read-from scanned End 0 count (moved 1 (c ∷ text_behind ps) p) ps small (rest-lawful (behind_minus k n) (sign c) ps lawful) numbered)
read-from scanned k n count p (space ∷ ps) small lawful numbered =
    space-step scanned k n count p ps (read-from scanned End 0 count (past 32 p) ps small (rest-lawful (behind_minus k n) space ps lawful) numbered)

-- a scan without a refusal gives its tokens
accepted-tokens : (ts : List Token) (refusal : Option Refusal) → refusal ≡ None → tokens_or_refusal (record { tokens = ts; refusal = refusal }) ≡ Ok ts
accepted-tokens ts refusal none = ap (λ r. tokens_or_refusal (record { tokens = ts; refusal = r })) none

scan-utf8 : (text : List ℕ) → IsUtf8 text → scan text ≡ utf8_scan text
scan-utf8 text utf8 =
    ap (λ b. cond b (utf8_scan text) (refused_at (1 + newlines (take (utf8_valid_len text) text)) BadUtf8)) (eq-eqb (utf8_valid_len text) (length text) (utf8_valid_len-IsUtf8 text utf8))

pub pieces-read : IsScannedByPieces → PiecesAreRead
pieces-read scanned ps lawful numbered =
    let text : List ℕ = text_behind ps in
    let utf8 : IsUtf8 text = IsUtf8-append (pieces_text ps) (codes " .") (pieces-utf8 false ps (codes " .") lawful) (utf8-all (codes " .") refl) in
    let s : Scan = utf8_scan text in
    let r : Reads [] 0 (spelled false ps ++ clause_ends ∷ []) (begins_digits ps) s = read-from scanned End 0 0 beginning ps (omega arith) lawful numbered in
    (s.tokens, ap tokens_or_refusal (scan-utf8 text utf8) ∙ accepted-tokens s.tokens s.refusal r.accepted, r.are)
