-- The pieces of a term are lawful: each ends where the next begins.
use Rattle.std.proofs.Common.{◌≡◌, ℕ, suc, ◌<◌, ◌≤◌, ◌^◌, Bool, true, false, cond, not, ◌||◌, ◌&&◌, List, [], ◌∷◌, ◌++◌, refl, sym, ◌∙◌, ap, subst, arith, append_assoc, append-nil}
use Rattle.std.specs.Prelude.{◌==◌, nat_lt, ℤ, pos, negsuc, codes, decimal}
use Rattle.std.specs.Str.{bytes_eq, is_utf8}
use Rattle.std.specs.Str.Lossy.{utf8_valid_len}
use Rattle.std.specs.Char.{encode_utf8}
use Rattle.std.specs.Str.{chars}
use Rattle.std.proofs.lemmas.Bool.{and_parts, and_from, ltb-true, ltb-false, eq-eqb}
use Rattle.cp_char.specs.Characters.{first, quote, is_symbol, is_alphanumeric}
use Rattle.cp_term.specs.declared.cell.Cell.{Cell}
use Rattle.cp_term.specs.declared.cell.Cell.TheVariants.{Int, Func}
use Rattle.cp_ops.specs.declared.fix.Fix.{Fix}
use Rattle.cp_ops.specs.Operators.{Ops, left_of, right_of, is_fixed, IsTable}
use Rattle.cp_ops.specs.Text.{quoting, is_plain, is_small_name, is_symbolic, is_tight, name_text, last_byte}
use Rattle.cp_read.specs.Pieces.{Piece, variable, digits, word, quoted, sign, space, piece_text, pieces_text, may_follow, is_minus, is_sound, are_lawful}
use Rattle.cp_read.specs.ReadBack.{is_proper}
use Rattle.cp_read.proofs.lemmas.Spelling.{Each, none, one, Shape, operator_atom, empty_brackets, elements, operation, simple, Spelling, in_parentheses, within, operand_by, operand, would_take, left_operand, gap, gap_before, gap_behind, infix_pieces, between_commas, functor, canonical, list_by, braces, atom_pieces, integer_pieces}
use Rattle.cp_read.proofs.lemmas.SpellingText.{text-append, tight-plain}
use Rattle.cp_read.proofs.lemmas.Surroundings.{prefix_free, infix_free}
use Rattle.cp_read.proofs.lemmas.SpellingFold.{IsShapedBy, IsShaped, Holds, shaped}
use Rattle.cp_read.proofs.lemmas.Beside.{meets, is_soft, meets_none, tight_soft, soft_follows, symbolic_last, symbolic_not_small, digit_not_symbol, lawful-append, lawful-front, HasBytes, first-append, last-append, bytes-append, name-bytes, decimal_digits}

-- a text may stand behind these pieces
pub record CanFollow (ps : List Piece) (behind : List ℕ) : Type 0 where
  pub soft : is_soft behind ≡ true
  pub apart : meets (pieces_text ps) behind ≡ false

pub record IsLawful (ps : List Piece) : Type 0 where
  pub lawful : (b : Bool) (behind : List ℕ) → CanFollow ps behind → are_lawful b ps behind ≡ true
  pub bytes : HasBytes (pieces_text ps)

-- up to a byte that goes on from nothing and is no symbol character
up_to : (ps : List Piece) (b : Bool) (c : ℕ) (behind : List ℕ) → IsLawful ps → is_soft (c ∷ behind) ≡ true → is_symbol c ≡ false → are_lawful b ps (c ∷ behind) ≡ true
up_to ps b c behind h soft apart = h.lawful b (c ∷ behind) (record { soft = soft; apart = meets_none (pieces_text ps) (c ∷ behind) apart })

-- what may stand behind some pieces may stand behind the last of them
follows_last : (ps qs : List Piece) (behind : List ℕ) → HasBytes (pieces_text qs) → CanFollow (ps ++ qs) behind → CanFollow qs behind
follows_last ps qs behind some h = record {
  soft = h.soft;
  apart = ap (λ c. is_symbol c && is_symbol (first behind)) (sym (ap last_byte (text-append ps qs) ∙ last-append (pieces_text ps) (pieces_text qs) some)) ∙ h.apart;
}

-- ---- parentheses

enclosed-lawful : (ps : List Piece) → IsLawful ps → IsLawful (sign 40 ∷ ps ++ sign 41 ∷ [])
enclosed-lawful ps h = record {
  lawful = λ b behind f. lawful-append false ps (sign 41 ∷ []) behind (up_to ps false 41 behind h refl refl) (λ c. refl);
  bytes = record { byte = 40; more = _; are = refl };
}

within-lawful : (max : ℕ) (t : Spelling) → IsLawful (t.pieces) → IsLawful ((within max t).pieces)
within-lawful max t h = elim (nat_lt max (t.priority)) as (λ b. IsLawful ((cond b (in_parentheses t) t).pieces)) [ true ↦ enclosed-lawful (t.pieces) h | false ↦ h ]

operand_by-lawful : (s : Shape) (max : ℕ) (t : Spelling) → IsLawful (t.pieces) → IsLawful ((operand_by s max t).pieces)
operand_by-lawful operator_atom max t h = enclosed-lawful (t.pieces) h
operand_by-lawful empty_brackets max t h = within-lawful max t h
operand_by-lawful (elements es) max t h = within-lawful max t h
operand_by-lawful (operation fix) max t h = within-lawful max t h
operand_by-lawful simple max t h = within-lawful max t h

left-lawful : (p : ℕ) (fix : Fix) (t : Spelling) → IsLawful (t.pieces) → IsLawful ((left_operand p fix t).pieces)
left-lawful p fix t h =
    elim (would_take (t.shape) (t.priority) p) as (λ b. IsLawful ((cond b (in_parentheses t) (operand (left_of p fix) t)).pieces)) [
      | true ↦ enclosed-lawful (t.pieces) h
      | false ↦ operand_by-lawful (t.shape) (left_of p fix) t h
    ]

-- ---- one piece

and_one : (a b : Bool) → a ≡ true → b ≡ true → (a && b && true) ≡ true
and_one a b e f = and_from (a && b) true (and_from a b e f) refl

-- a piece that is sound, before a text that may follow it
one-lawful : (b : Bool) (p : Piece) (ps : List Piece) (behind : List ℕ) → is_sound b p ≡ true → may_follow p (pieces_text ps ++ behind) ≡ true → are_lawful (is_minus p) ps behind ≡ true → are_lawful b (p ∷ ps) behind ≡ true
one-lawful b p ps behind e f g = and_from (is_sound b p && may_follow p (pieces_text ps ++ behind)) (are_lawful (is_minus p) ps behind) (and_from (is_sound b p) (may_follow p (pieces_text ps ++ behind)) e f) g

-- a piece before a byte that goes on from nothing and is no symbol character
stops : (p : Piece) (c : ℕ) (text : List ℕ) → is_soft (c ∷ text) ≡ true → is_symbol c ≡ false → may_follow p (c ∷ text) ≡ true
stops p c text soft apart = soft_follows p (c ∷ text) soft (meets_none (piece_text p) (c ∷ text) apart)

-- a term of one piece
piece-lawful : (p : Piece) → ((b : Bool) → is_sound b p ≡ true) → HasBytes (piece_text p) → IsLawful (p ∷ [])
piece-lawful p sound some = record {
  lawful = λ b behind f. one-lawful b p [] behind (sound b) (soft_follows p behind (f.soft) (ap (λ x. meets x behind) (sym (append-nil (piece_text p))) ∙ f.apart)) refl;
  bytes = bytes-append (piece_text p) [] some;
}

or_true : (a b : Bool) → a ≡ true → (a || b) ≡ true
or_true true b h = refl
or_true false b h = absurd (let never : ⊥ = cc in never)

-- ---- variables and integers

variable-lawful : (v : ℕ) → nat_lt v (2 ^ 64) ≡ true → IsLawful (variable v ∷ [])
variable-lawful v h = piece-lawful (variable v) (λ b. h) (record { byte = 95; more = decimal v; are = refl })

digit_bytes : (n : ℕ) → n < 2 ^ 64 → HasBytes (decimal n)
digit_bytes n h = let d = decimal_digits n h in record { byte = d.byte; more = d.more; are = d.are }

minus_utf8 : is_utf8 (codes "-") ≡ true
unfolding utf8_valid_len is_utf8 chars encode_utf8
minus_utf8 = refl

below_wide : (n : ℕ) → n < 2 ^ 63 → (nat_lt (suc n) (2 ^ 63) || (true && suc n == 2 ^ 63)) ≡ true
below_wide n h =
    elim (nat_lt (suc n) (2 ^ 63)) as (λ b. nat_lt (suc n) (2 ^ 63) ≡ b → (b || (true && suc n == 2 ^ 63)) ≡ true) [
      | true ↦ λ e. refl
      | false ↦ λ e. let high : 2 ^ 63 ≤ suc n = ltb-false (suc n) (2 ^ 63) e in eq-eqb (suc n) (2 ^ 63) (omega (arith, high, h))
    ] refl

first_digit : (n : ℕ) (text : List ℕ) → n < 2 ^ 64 → is_symbol (first (decimal n ++ text)) ≡ false
first_digit n text h =
    let d = decimal_digits n h in
    ap (λ x. is_symbol (first (x ++ text))) (d.are) ∙ digit_not_symbol (d.byte) (d.low) (d.high)

integer-lawful : (i : ℤ) → is_proper (Int i) ≡ true → IsLawful (integer_pieces i)
integer-lawful (pos n) h =
    let low : n < 2 ^ 63 = ltb-true n (2 ^ 63) h in
    piece-lawful (digits n) (λ b. or_true (nat_lt n (2 ^ 63)) (b && n == 2 ^ 63) h) (digit_bytes n (omega (arith, low)))
integer-lawful (negsuc n) h =
    let low : n < 2 ^ 63 = ltb-true n (2 ^ 63) h in
    let wide : suc n < 2 ^ 64 = omega (arith, low) in
    record {
      lawful = λ b behind f.
          one-lawful b (word (codes "-")) (digits (suc n) ∷ []) behind (ap (λ t. t && true) minus_utf8)
          (ap not (ap (λ x. is_symbol (first (x ++ behind))) (append-nil (decimal (suc n))) ∙ first_digit (suc n) behind wide))
          (one-lawful true (digits (suc n)) [] behind (below_wide n low)
          (soft_follows (digits (suc n)) behind (f.soft) (ap (λ c. is_symbol c && is_symbol (first behind)) (sym (last-append (45 ∷ []) (decimal (suc n) ++ []) (bytes-append (decimal (suc n)) [] (digit_bytes (suc n) wide)) ∙ ap last_byte (append-nil (decimal (suc n))))) ∙ f.apart)) refl);
      bytes = record { byte = 45; more = _; are = refl };
    }

-- ---- names

word-sound : (a : List ℕ) (b : Bool) → is_utf8 a ≡ true → (bytes_eq a (codes "[]") || bytes_eq a (codes "{}")) ≡ false → is_sound b (word a) ≡ true
word-sound a b h e = and_from (is_utf8 a) (not (bytes_eq a (codes "[]") || bytes_eq a (codes "{}"))) h (ap not e)

brackets-lawful : IsLawful (sign 91 ∷ sign 93 ∷ [])
brackets-lawful = record { lawful = λ b behind f. refl; bytes = record { byte = 91; more = 93 ∷ []; are = refl } }

curly-lawful : IsLawful (sign 123 ∷ sign 125 ∷ [])
curly-lawful = record { lawful = λ b behind f. refl; bytes = record { byte = 123; more = 125 ∷ []; are = refl } }

atom-lawful : (a : List ℕ) → is_utf8 a ≡ true → IsLawful (atom_pieces a)
atom-lawful a h =
    elim (bytes_eq a (codes "[]")) as (λ x. bytes_eq a (codes "[]") ≡ x → IsLawful (cond x (sign 91 ∷ sign 93 ∷ []) (cond (bytes_eq a (codes "{}")) (sign 123 ∷ sign 125 ∷ []) (word a ∷ [])))) [
      | true ↦ λ _. brackets-lawful
      | false ↦ λ e. elim (bytes_eq a (codes "{}")) as (λ x. bytes_eq a (codes "{}") ≡ x → IsLawful (cond x (sign 123 ∷ sign 125 ∷ []) (word a ∷ []))) [
        | true ↦ λ _. curly-lawful
        | false ↦ λ f. piece-lawful (word a) (λ b. word-sound a b h (λ i. e i || f i)) (name-bytes a)
      ] refl
    ] refl

-- ---- compounds in functional notation

between-lawful : (ts : List Spelling) (b : Bool) (behind : List ℕ) → Each (λ t. IsLawful (t.pieces)) ts → are_lawful b (between_commas ts) (41 ∷ behind) ≡ true
between-lawful _ b behind none = refl
between-lawful _ b behind (one t _ h none) = up_to ((within 999 t).pieces) b 41 behind (within-lawful 999 t h) refl refl
between-lawful _ b behind (one t _ h (one u ts g gs)) =
    lawful-append b ((within 999 t).pieces) (sign 44 ∷ between_commas (u ∷ ts)) (41 ∷ behind)
    (up_to ((within 999 t).pieces) b 44 (pieces_text (between_commas (u ∷ ts)) ++ 41 ∷ behind) (within-lawful 999 t h) refl refl)
    (λ c. between-lawful (u ∷ ts) false behind (one u ts g gs))

functor-sound : (a : List ℕ) (x b : Bool) → is_utf8 a ≡ true → (bytes_eq a (codes "[]") || bytes_eq a (codes "{}")) ≡ x → is_sound b (cond x (quoted a) (word a)) ≡ true
functor-sound a true b h e = h
functor-sound a false b h e = word-sound a b h e

functor-bytes : (a : List ℕ) (x : Bool) (qs : List Piece) → HasBytes (pieces_text (cond x (quoted a) (word a) ∷ qs))
functor-bytes a true qs = record { byte = 39; more = _; are = refl }
functor-bytes a false qs = bytes-append (name_text quoting a) (pieces_text qs) (name-bytes a)

canonical-lawful : (name : List ℕ) (ts : List Spelling) → is_utf8 name ≡ true → Each (λ t. IsLawful (t.pieces)) ts → IsLawful ((canonical name ts).pieces)
canonical-lawful name ts h hs =
    let x = bytes_eq name (codes "[]") || bytes_eq name (codes "{}") in
    let ps = between_commas ts in
    record {
      lawful = λ b behind f.
          one-lawful b (functor name) (sign 40 ∷ ps ++ sign 41 ∷ []) behind (functor-sound name x b h refl)
          (stops (functor name) 40 (pieces_text (ps ++ sign 41 ∷ []) ++ behind) refl refl)
          (lawful-append false ps (sign 41 ∷ []) behind (between-lawful ts false behind hs) (λ c. refl));
      bytes = functor-bytes name x (sign 40 ∷ ps ++ sign 41 ∷ []);
    }

braces-lawful : (t : Spelling) → IsLawful (t.pieces) → IsLawful ((braces t).pieces)
braces-lawful t h = record {
  lawful = λ b behind f. lawful-append false ((within 1200 t).pieces) (sign 125 ∷ []) behind (up_to ((within 1200 t).pieces) false 125 behind (within-lawful 1200 t h) refl refl) (λ c. refl);
  bytes = record { byte = 123; more = _; are = refl };
}

-- ---- lists

in_brackets-lawful : (es : List Piece) → ((behind : List ℕ) → is_soft behind ≡ true → are_lawful false es (93 ∷ behind) ≡ true) → IsLawful (sign 91 ∷ es ++ sign 93 ∷ [])
in_brackets-lawful es h = record {
  lawful = λ b behind f. lawful-append false es (sign 93 ∷ []) behind (h behind (f.soft)) (λ c. refl);
  bytes = record { byte = 91; more = _; are = refl };
}

-- two parts of a list with a sign between them
parted-lawful : (t : Spelling) (c : ℕ) (es : List Piece) → IsLawful (t.pieces) → is_sound false (sign c) ≡ true → ((text : List ℕ) → is_soft (c ∷ text) ≡ true) → is_symbol c ≡ false →
    ((behind : List ℕ) → is_soft behind ≡ true → are_lawful false es (93 ∷ behind) ≡ true) → IsLawful (sign 91 ∷ ((within 999 t).pieces ++ sign c ∷ es) ++ sign 93 ∷ [])
parted-lawful t c es h sound soft apart g =
    let w = (within 999 t).pieces in
    in_brackets-lawful (w ++ sign c ∷ es) (λ behind free.
    lawful-append false w (sign c ∷ es) (93 ∷ behind)
    (up_to w false c (pieces_text es ++ 93 ∷ behind) (within-lawful 999 t h) (soft (pieces_text es ++ 93 ∷ behind)) apart)
    (λ d. one-lawful d (sign c) es (93 ∷ behind) sound refl (g behind free)))

-- the elements of a list that is lawful
elements-lawful : (u : Spelling) (es : List Piece) (behind : List ℕ) → IsLawful (u.pieces) → u.pieces ≡ sign 91 ∷ es ++ sign 93 ∷ [] → is_soft behind ≡ true → are_lawful false es (93 ∷ behind) ≡ true
elements-lawful u es behind h e soft =
    let g = subst IsLawful e h in
    let last : last_byte (pieces_text (sign 91 ∷ es ++ sign 93 ∷ [])) ≡ 93 = ap last_byte (text-append (sign 91 ∷ es) (sign 93 ∷ [])) ∙ last-append (pieces_text (sign 91 ∷ es)) (93 ∷ []) (record { byte = 93; more = []; are = refl }) in
    lawful-front false es (sign 93 ∷ []) behind
    (g.lawful false behind (record { soft = soft; apart = ap (λ c. is_symbol c && is_symbol (first behind)) last }))

tail-lawful : (t u : Spelling) → IsLawful (t.pieces) → IsLawful (u.pieces) → IsLawful (sign 91 ∷ ((within 999 t).pieces ++ sign 124 ∷ (within 999 u).pieces) ++ sign 93 ∷ [])
tail-lawful t u h g =
    parted-lawful t 124 ((within 999 u).pieces) h refl (λ text. refl) refl (λ behind free. up_to ((within 999 u).pieces) false 93 behind (within-lawful 999 u g) refl refl)

list_by-lawful : (cells : List Cell) (s : Shape) (t u : Spelling) → IsLawful (t.pieces) → IsLawful (u.pieces) → IsShapedBy u s → IsLawful ((list_by cells s ((within 999 t).pieces) u).pieces)
list_by-lawful cells operator_atom t u h g k = tail-lawful t u h g
list_by-lawful cells empty_brackets t u h g k = in_brackets-lawful ((within 999 t).pieces) (λ behind free. up_to ((within 999 t).pieces) false 93 behind (within-lawful 999 t h) refl refl)
list_by-lawful cells (elements es) t u h g k = parted-lawful t 44 es h refl (λ text. refl) refl (λ behind free. elements-lawful u es behind g k free)
list_by-lawful cells (operation fix) t u h g k = tail-lawful t u h g
list_by-lawful cells simple t u h g k = tail-lawful t u h g

-- ---- prefix operators

or_parts : (a b c d : Bool) → (a || b || c || d) ≡ false → (c || d) ≡ false
or_parts true b c d h = absurd (let never : ⊥ = cc in never)
or_parts false true c d h = absurd (let never : ⊥ = cc in never)
or_parts false false c d h = h

not_special : (a : List ℕ) → is_fixed a ≡ false → (bytes_eq a (codes "[]") || bytes_eq a (codes "{}")) ≡ false
not_special a h = or_parts (bytes_eq a (codes ",")) (bytes_eq a (codes "|")) (bytes_eq a (codes "[]")) (bytes_eq a (codes "{}")) h

prefix-lawful : (name : List ℕ) (u : List Piece) → is_utf8 name ≡ true → is_fixed name ≡ false → IsLawful u → IsLawful (word name ∷ space ∷ u)
prefix-lawful name u h free g = record {
  lawful = λ b behind f.
      one-lawful b (word name) (space ∷ u) behind (word-sound name b h (not_special name free)) (stops (word name) 32 (pieces_text u ++ behind) refl refl)
      (g.lawful false behind (follows_last (word name ∷ space ∷ []) u behind (g.bytes) f));
  bytes = bytes-append (name_text quoting name) (pieces_text (space ∷ u)) (name-bytes name);
}

-- ---- infix operators

comma-lawful : (left right : List Piece) → IsLawful left → IsLawful right → IsLawful (left ++ (sign 44 ∷ right))
comma-lawful left right h g = record {
  lawful = λ b behind f.
      lawful-append b left (sign 44 ∷ right) behind (up_to left b 44 (pieces_text right ++ behind) h refl refl)
      (λ c. g.lawful false behind (follows_last (left ++ (sign 44 ∷ [])) right behind (g.bytes) (subst (λ ps. CanFollow ps behind) (sym (append_assoc left (sign 44 ∷ []) right)) f)));
  bytes = subst HasBytes (sym (text-append left (sign 44 ∷ right))) (bytes-append (pieces_text left) (pieces_text (sign 44 ∷ right)) (h.bytes));
}

-- a name between two operands, with the spaces that it needs
module _ (name : List ℕ) (left right : List Piece) (h : IsLawful left) (g : IsLawful right) (sound : (b : Bool) → is_sound b (word name) ≡ true) where
  tight_parts : (tight : Bool) (x : Bool) → (not tight || x) ≡ false → (tight ≡ true) × (x ≡ false)
  tight_parts true x e = (refl, e)
  tight_parts false x e = absurd (let never : ⊥ = cc in never)

  -- the name without a space behind it
  name_meets : gap_behind name right ≡ false → (behind : List ℕ) → may_follow (word name) (pieces_text right ++ behind) ≡ true
  name_meets e behind =
      let text = pieces_text right ++ behind in
      let p = tight_parts (is_tight quoting name) (meets name (pieces_text right)) e in
      let q = and_parts (is_symbolic name) (is_plain name) (p.0) in
      let no_symbol : is_symbol (first (pieces_text right)) ≡ false = sym (ap (λ b. b && is_symbol (first (pieces_text right))) (symbolic_last name (q.0))) ∙ p.1 in
      ap (λ b. cond (not b) (not (first text == quote)) (cond (is_small_name name) (not (is_alphanumeric (first text))) (not (is_symbolic name && is_symbol (first text))))) (q.1)
      ∙ (ap (λ b. cond b (not (is_alphanumeric (first text))) (not (is_symbolic name && is_symbol (first text)))) (symbolic_not_small name (q.0))
      ∙ (ap (λ b. not (b && is_symbol (first text))) (q.0)
      ∙ ap not (ap is_symbol (first-append (pieces_text right) behind (g.bytes)) ∙ no_symbol)))

  -- from the name on
  from_name : (t : Bool) → gap_behind name right ≡ t → (b : Bool) (behind : List ℕ) → CanFollow right behind → are_lawful b (word name ∷ (gap t ++ right)) behind ≡ true
  from_name true e b behind f = one-lawful b (word name) (space ∷ right) behind (sound b) (stops (word name) 32 (pieces_text right ++ behind) refl refl) (g.lawful false behind f)
  from_name false e b behind f = one-lawful b (word name) right behind (sound b) (name_meets e behind) (g.lawful (is_minus (word name)) behind f)

  symbolic-bytes : (a : List ℕ) → is_symbolic a ≡ true → HasBytes a
  symbolic-bytes [] e = absurd (let never : ⊥ = cc in never)
  symbolic-bytes (c ∷ a) e = record { byte = c; more = a; are = refl }

  -- the left operand without a space behind it
  left_meets : gap_before name left ≡ false → (b : Bool) (text : List ℕ) → are_lawful b left (name_text quoting name ++ text) ≡ true
  left_meets e b text =
      let p = tight_parts (is_tight quoting name) (meets (pieces_text left) name) e in
      let q = and_parts (is_symbolic name) (is_plain name) (p.0) in
      ap (λ x. are_lawful b left (x ++ text)) (tight-plain name (p.0))
      ∙ h.lawful b (name ++ text) (record {
        soft = tight_soft name text (q.0) (q.1);
        apart = ap (λ c. is_symbol (last_byte (pieces_text left)) && is_symbol c) (first-append name text (symbolic-bytes name (q.0))) ∙ p.1;
      })

  pub spaced-lawful : (s t : Bool) → gap_before name left ≡ s → gap_behind name right ≡ t → (b : Bool) (behind : List ℕ) → CanFollow right behind → are_lawful b (left ++ ((gap s ++ (word name ∷ gap t)) ++ right)) behind ≡ true
  spaced-lawful true t d e b behind f =
      let qs = word name ∷ (gap t ++ right) in
      lawful-append b left (space ∷ qs) behind (up_to left b 32 (pieces_text qs ++ behind) h refl refl) (λ c. from_name t e false behind f)
  spaced-lawful false t d e b behind f =
      let qs = gap t ++ right in
      lawful-append b left (word name ∷ qs) behind
      (ap (λ x. are_lawful b left x) (append_assoc (name_text quoting name) (pieces_text qs) behind) ∙ left_meets d b (pieces_text qs ++ behind))
      (λ c. from_name t e c behind f)

between_follows : (left m right : List Piece) (behind : List ℕ) → HasBytes (pieces_text right) → CanFollow (left ++ (m ++ right)) behind → CanFollow right behind
between_follows left m right behind some f = follows_last (left ++ m) right behind some (subst (λ ps. CanFollow ps behind) (sym (append_assoc left m right)) f)

infix-lawful : (name : List ℕ) (left right : List Piece) → is_utf8 name ≡ true → (not (is_fixed name) || bytes_eq name (codes ",")) ≡ true → IsLawful left → IsLawful right → IsLawful (infix_pieces name left right)
infix-lawful name left right proper free h g =
    elim (bytes_eq name (codes ",")) as (λ b. (not (is_fixed name) || b) ≡ true → IsLawful (left ++ (cond b (sign 44 ∷ []) (gap (gap_before name left) ++ (word name ∷ gap (gap_behind name right))) ++ right))) [
      | true ↦ λ e. comma-lawful left right h g
      | false ↦ λ e.
          let m = gap (gap_before name left) ++ (word name ∷ gap (gap_behind name right)) in
          let sound = λ (b : Bool). word-sound name b proper (not_special name (not_either (is_fixed name) e)) in
          record {
            lawful = λ b behind f. spaced-lawful name left right h g sound (gap_before name left) (gap_behind name right) refl refl b behind (between_follows left m right behind (g.bytes) f);
            bytes = subst HasBytes (sym (text-append left (m ++ right))) (bytes-append (pieces_text left) (pieces_text (m ++ right)) (h.bytes));
          }
    ] free
  where
    not_either : (b : Bool) → (not b || false) ≡ true → b ≡ false
    not_either true e = absurd (let never : ⊥ = cc in never)
    not_either false e = refl

-- ---- each form of term

-- the pieces of a term, whose shape says what they are
pub record HasLawful (t : Spelling) : Type 0 where
  pub pieces : IsLawful (t.pieces)
  pub shaped : IsShaped t

each_lawful : (ts : List Spelling) → Each HasLawful ts → Each (λ t. IsLawful (t.pieces)) ts
each_lawful _ none = none
each_lawful _ (one t ts h hs) = one t ts (h.pieces) (each_lawful ts hs)

pub has_lawful : (ops : Ops) → IsTable ops → Holds ops HasLawful
has_lawful ops table =
    let s = shaped ops in
    record {
      of_variable = λ v h. record { pieces = variable-lawful v h; shaped = s.of_variable v h };
      of_integer = λ i h. record { pieces = integer-lawful i h; shaped = s.of_integer i h };
      of_atom = λ a h. record { pieces = atom-lawful a h; shaped = s.of_atom a h };
      of_canonical = λ name ts h hs. record { pieces = canonical-lawful name ts h (each_lawful ts hs); shaped = tt };
      of_braces = λ t h. record { pieces = braces-lawful t (h.pieces); shaped = tt };
      of_prefix = λ name op t h e p. record {
        pieces = prefix-lawful name ((operand (right_of (op.0) (op.1)) t).pieces) h (prefix_free ops table name op e) (operand_by-lawful (t.shape) (right_of (op.0) (op.1)) t (p.pieces));
        shaped = tt;
      };
      of_list = λ t u p q. record {
        pieces = list_by-lawful (Func (codes ".") 2 ∷ t.cells ++ u.cells) (u.shape) t u (p.pieces) (q.pieces) (q.shaped);
        shaped = s.of_list t u (p.shaped) (q.shaped);
      };
      of_infix = λ name op t u h e p q. record {
        pieces = infix-lawful name ((left_operand (op.0) (op.1) t).pieces) ((operand (right_of (op.0) (op.1)) u).pieces) h (infix_free ops table name op e) (left-lawful (op.0) (op.1) t (p.pieces)) (operand_by-lawful (u.shape) (right_of (op.0) (op.1)) u (q.pieces));
        shaped = tt;
      };
    }
