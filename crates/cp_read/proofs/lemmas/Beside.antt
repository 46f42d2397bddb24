-- Which texts may stand behind a piece, and pieces behind others.
use Rattle.std.proofs.Common.{◌≡◌, ℕ, ◌+◌, ◌%◌, ◌<◌, ◌≤◌, ◌^◌, Bool, true, false, cond, not, ◌||◌, ◌&&◌, List, [], ◌∷◌, ◌++◌, refl, sym, ◌∙◌, ap, subst, arith, append_assoc}
use Rattle.std.specs.Prelude.{◌==◌, nat_lt, nat_le, slice_index, codes, decimal}
use Rattle.std.specs.List.{list_all, list_any}
use Rattle.std.specs.Char.{is_digit, is_ascii_lowercase}
use Rattle.std.proofs.lemmas.Bool.{and_parts, and_from, le-leb, lt-ltb}
use Rattle.std.proofs.lemmas.Bool.Decides.{Decides-eqb}
use Rattle.std.proofs.lemmas.Fmt.{decimal_by_steps}
use Rattle.cp_char.specs.Characters.{first, quote, ◌∈◌, is_symbol, is_alphanumeric}
use Rattle.cp_lex.specs.Lexical.{begins_fraction}
use Rattle.cp_ops.specs.Text.{quoting, is_plain, is_small_name, is_symbolic, in_quotes, name_text, last_byte}
use Rattle.cp_read.specs.Pieces.{Piece, variable, digits, word, quoted, sign, space, piece_text, pieces_text, name_ends, may_follow, is_minus, is_sound, are_lawful}
use Rattle.cp_read.proofs.lemmas.SpellingText.{text-append, last_byte-append}
use Rattle.cp_read.proofs.lemmas.Surroundings.{and_false, not_true}

-- ---- symbol characters

-- what holds of each character of a list holds of the one found in it
any_test : (test : ℕ → Bool) (c : ℕ) (ds : List ℕ) → list_all test ds ≡ true → list_any (λ d. c == d) ds ≡ true → test c ≡ true
any_test test c [] h g = absurd (let never : ⊥ = cc in never)
any_test test c (d ∷ ds) h g =
    let p = and_parts (test d) (list_all test ds) h in
    elim (c == d) as (λ b. (c == d) ≡ b → (b || list_any (λ e. c == e) ds) ≡ true → test c ≡ true) [
      | true ↦ λ e _. ap test ((Decides-eqb c d).0 e) ∙ p.0
      | false ↦ λ e f. any_test test c ds (p.1) f
    ] refl g

symbol_test : (test : ℕ → Bool) (c : ℕ) → list_all (λ d. not (test d)) (codes "+-*/\\^<>=~:.?@#&$") ≡ true → is_symbol c ≡ true → test c ≡ false
symbol_test test c h s = not_true (test c) (any_test (λ d. not (test d)) c (codes "+-*/\\^<>=~:.?@#&$") h s)

pub symbol_not_alphanumeric : (c : ℕ) → is_symbol c ≡ true → is_alphanumeric c ≡ false
symbol_not_alphanumeric c h = symbol_test is_alphanumeric c refl h

pub symbol_not_quote : (c : ℕ) → is_symbol c ≡ true → (c == quote) ≡ false
symbol_not_quote c h = symbol_test (λ d. d == quote) c refl h

symbol_not_digit : (c : ℕ) → is_symbol c ≡ true → is_digit c 10 ≡ false
symbol_not_digit c h = symbol_test (λ d. is_digit d 10) c refl h

symbol_not_small : (c : ℕ) → is_symbol c ≡ true → is_ascii_lowercase c ≡ false
symbol_not_small c h = symbol_test is_ascii_lowercase c refl h

symbol_not_between : (c : ℕ) → is_symbol c ≡ true → (nat_le 48 c && nat_lt c 58) ≡ false
symbol_not_between c h = symbol_test (λ d. nat_le 48 d && nat_lt d 58) c refl h

pub digit_not_symbol : (c : ℕ) → 48 ≤ c → c < 58 → is_symbol c ≡ false
digit_not_symbol c low high =
    elim (is_symbol c) as (λ b. is_symbol c ≡ b → b ≡ false) [
      | true ↦ λ e. sym (and_from (nat_le 48 c) (nat_lt c 58) (le-leb 48 c low) (lt-ltb c 58 high)) ∙ symbol_not_between c e
      | false ↦ λ e. refl
    ] refl

pub symbolic_not_small : (a : List ℕ) → is_symbolic a ≡ true → is_small_name a ≡ false
symbolic_not_small [] h = refl
symbolic_not_small (c ∷ a) h = ap (λ b. b && list_all is_alphanumeric a) (symbol_not_small c ((and_parts (is_symbol c) (list_all is_symbol a) h).0))

last_of_all : (c : ℕ) (a : List ℕ) → list_all is_symbol (c ∷ a) ≡ true → is_symbol (last_byte (c ∷ a)) ≡ true
last_of_all c [] h = (and_parts (is_symbol c) true h).0
last_of_all c (d ∷ a) h = last_of_all d a ((and_parts (is_symbol c) (list_all is_symbol (d ∷ a)) h).1)

pub symbolic_last : (a : List ℕ) → is_symbolic a ≡ true → is_symbol (last_byte a) ≡ true
symbolic_last [] h = absurd (let never : ⊥ = cc in never)
symbolic_last (c ∷ a) h = last_of_all c a h

-- ---- texts

-- two texts whose bytes where they meet are both symbol characters
abbrev pub meets : List ℕ → List ℕ → Bool
meets a b = is_symbol (last_byte a) && is_symbol (first b)

-- a text that goes on from no name, number or quoted name
abbrev pub is_soft : List ℕ → Bool
is_soft text = not (is_alphanumeric (first text)) && not (first text == quote) && not (begins_fraction text)

-- a text that begins with no symbol character meets none
pub meets_none : (a b : List ℕ) → is_symbol (first b) ≡ false → meets a b ≡ false
meets_none a b h = ap (λ t. is_symbol (last_byte a) && t) h ∙ and_false (is_symbol (last_byte a))

soft_from : (a b c : Bool) → a ≡ false → b ≡ false → c ≡ false → (not a && not b && not c) ≡ true
soft_from a b c e f g = λ i. not (e i) && not (f i) && not (g i)

one_dot : (c : ℕ) → is_plain (c ∷ []) ≡ true → (c ∈ ".") ≡ false
one_dot c h =
    elim (c == 46) as (λ b. (c == 46) ≡ b → (b || false) ≡ false) [
      | true ↦ λ e. absurd (let dot : is_plain (46 ∷ []) ≡ true = subst (λ d. is_plain (d ∷ []) ≡ true) ((Decides-eqb c 46).0 e) h in let never : ⊥ = cc in never)
      | false ↦ λ e. refl
    ] refl

-- a tight operator's name goes on from none
pub tight_soft : (a rest : List ℕ) → is_symbolic a ≡ true → is_plain a ≡ true → is_soft (a ++ rest) ≡ true
tight_soft [] rest h p = absurd (let never : ⊥ = cc in never)
tight_soft (c ∷ []) rest h p =
    let s = (and_parts (is_symbol c) true h).0 in
    soft_from (is_alphanumeric c) (c == quote) (begins_fraction (c ∷ rest)) (symbol_not_alphanumeric c s) (symbol_not_quote c s) (ap (λ b. b && is_digit (slice_index (c ∷ rest) 1) 10) (one_dot c p))
tight_soft (c ∷ d ∷ a) rest h p =
    let q = and_parts (is_symbol c) (list_all is_symbol (d ∷ a)) h in
    let s = q.0 in
    let t = (and_parts (is_symbol d) (list_all is_symbol a) (q.1)).0 in
    soft_from (is_alphanumeric c) (c == quote) (begins_fraction (c ∷ d ∷ a ++ rest)) (symbol_not_alphanumeric c s) (symbol_not_quote c s) (ap (λ b. (c ∈ ".") && b) (symbol_not_digit d t) ∙ and_false (c ∈ "."))

-- ---- behind a piece

soft_parts : (text : List ℕ) → is_soft text ≡ true → (not (is_alphanumeric (first text)) ≡ true) × (not (first text == quote) ≡ true)
soft_parts text h =
    let p = and_parts (not (is_alphanumeric (first text)) && not (first text == quote)) (not (begins_fraction text)) h in
    and_parts (not (is_alphanumeric (first text))) (not (first text == quote)) (p.0)

symbolic_ends : (a text : List ℕ) (s : Bool) → is_symbolic a ≡ s → meets a text ≡ false → not (s && is_symbol (first text)) ≡ true
symbolic_ends a text true e h = ap not (sym (ap (λ b. b && is_symbol (first text)) (symbolic_last a e)) ∙ h)
symbolic_ends a text false e h = refl

plain_ends : (a text : List ℕ) → is_soft text ≡ true → meets a text ≡ false → cond (is_small_name a) (not (is_alphanumeric (first text))) (not (is_symbolic a && is_symbol (first text))) ≡ true
plain_ends a text soft apart =
    elim (is_small_name a) as (λ b. cond b (not (is_alphanumeric (first text))) (not (is_symbolic a && is_symbol (first text))) ≡ true) [
      | true ↦ (soft_parts text soft).0
      | false ↦ symbolic_ends a text (is_symbolic a) refl apart
    ]

word_ends : (a text : List ℕ) → is_soft text ≡ true → meets (name_text quoting a) text ≡ false → name_ends a text ≡ true
word_ends a text soft =
    elim (is_plain a) as (λ b. meets (cond b a (in_quotes a)) text ≡ false →
    cond (not b) (not (first text == quote)) (cond (is_small_name a) (not (is_alphanumeric (first text))) (not (is_symbolic a && is_symbol (first text)))) ≡ true) [
      | true ↦ λ apart. plain_ends a text soft apart
      | false ↦ λ apart. (soft_parts text soft).1
    ]

-- a soft text may stand behind a piece where no two symbol characters meet
pub soft_follows : (p : Piece) (text : List ℕ) → is_soft text ≡ true → meets (piece_text p) text ≡ false → may_follow p text ≡ true
soft_follows (variable n) text soft apart = (soft_parts text soft).0
soft_follows (digits n) text soft apart = soft
soft_follows (word a) text soft apart = word_ends a text soft apart
soft_follows (quoted a) text soft apart = (soft_parts text soft).1
soft_follows (sign c) text soft apart = refl
soft_follows space text soft apart = refl

-- ---- pieces behind pieces

moved : (ps qs : List Piece) (behind : List ℕ) → pieces_text (ps ++ qs) ++ behind ≡ pieces_text ps ++ (pieces_text qs ++ behind)
moved ps qs behind = ap (λ x. x ++ behind) (text-append ps qs) ∙ append_assoc (pieces_text ps) (pieces_text qs) behind

and_three : (a b c d : Bool) → (a && b && c) ≡ true → (c ≡ true → d ≡ true) → (a && b && d) ≡ true
and_three true true c d h g = g h
and_three true false c d h g = absurd (let never : ⊥ = cc in never)
and_three false b c d h g = absurd (let never : ⊥ = cc in never)

pub lawful-append : (b : Bool) (ps qs : List Piece) (behind : List ℕ) → are_lawful b ps (pieces_text qs ++ behind) ≡ true → ((c : Bool) → are_lawful c qs behind ≡ true) → are_lawful b (ps ++ qs) behind ≡ true
lawful-append b [] qs behind h g = g b
lawful-append b (p ∷ ps) qs behind h g =
    ap (λ x. is_sound b p && may_follow p x && are_lawful (is_minus p) (ps ++ qs) behind) (moved ps qs behind)
    ∙ and_three (is_sound b p) (may_follow p (pieces_text ps ++ (pieces_text qs ++ behind))) (are_lawful (is_minus p) ps (pieces_text qs ++ behind)) (are_lawful (is_minus p) (ps ++ qs) behind) h
    (λ f. lawful-append (is_minus p) ps qs behind f g)

pub lawful-front : (b : Bool) (ps qs : List Piece) (behind : List ℕ) → are_lawful b (ps ++ qs) behind ≡ true → are_lawful b ps (pieces_text qs ++ behind) ≡ true
lawful-front b [] qs behind h = refl
lawful-front b (p ∷ ps) qs behind h =
    ap (λ x. is_sound b p && may_follow p x && are_lawful (is_minus p) ps (pieces_text qs ++ behind)) (sym (moved ps qs behind))
    ∙ and_three (is_sound b p) (may_follow p (pieces_text (ps ++ qs) ++ behind)) (are_lawful (is_minus p) (ps ++ qs) behind) (are_lawful (is_minus p) ps (pieces_text qs ++ behind)) h
    (λ f. lawful-front (is_minus p) ps qs behind f)

-- a text of at least one byte
pub record HasBytes (text : List ℕ) : Type 0 where
  pub byte : ℕ
  pub more : List ℕ
  pub are : text ≡ byte ∷ more

pub first-append : (a b : List ℕ) → HasBytes a → first (a ++ b) ≡ first a
first-append a b h = ap (λ x. first (x ++ b)) (h.are) ∙ sym (ap first (h.are))

pub last-append : (a b : List ℕ) → HasBytes b → last_byte (a ++ b) ≡ last_byte b
last-append a b h = ap (λ x. last_byte (a ++ x)) (h.are) ∙ (last_byte-append a (h.byte) (h.more) ∙ sym (ap last_byte (h.are)))

pub bytes-append : (a b : List ℕ) → HasBytes a → HasBytes (a ++ b)
bytes-append a b h = record { byte = h.byte; more = h.more ++ b; are = ap (λ x. x ++ b) (h.are) }

pub bytes-behind : (a b : List ℕ) → HasBytes b → HasBytes (a ++ b)
bytes-behind [] b h = h
bytes-behind (x ∷ a) b h = record { byte = x; more = a ++ b; are = refl }

-- a name's text has bytes
pub name-bytes : (a : List ℕ) → HasBytes (name_text quoting a)
name-bytes [] = record { byte = quote; more = quote ∷ []; are = refl }
name-bytes (c ∷ a) = elim (is_plain (c ∷ a)) as (λ b. HasBytes (cond b (c ∷ a) (in_quotes (c ∷ a)))) [ true ↦ record { byte = c; more = a; are = refl } | false ↦ record { byte = quote; more = _; are = refl } ]

-- a number's text begins with a digit
pub record BeginsWithDigit (n : ℕ) (text : List ℕ) : Type 0 where
  pub byte : ℕ
  pub more : List ℕ
  pub are : text ≡ byte ∷ more
  pub low : 48 ≤ byte
  pub high : byte < 58

pub decimal_digits : (n : ℕ) → n < 2 ^ 64 → BeginsWithDigit n (decimal n)
decimal_digits n h = decimal_by_steps BeginsWithDigit (λ m lt. record { byte = 48 + m; more = []; are = refl; low = omega arith; high = omega (arith, lt) }) (λ m ds _ g. record { byte = g.byte; more = g.more ++ ((48 + m % 10) ∷ []); are = ap (λ x. x ++ ((48 + m % 10) ∷ [])) (g.are); low = g.low; high = g.high }) n h
