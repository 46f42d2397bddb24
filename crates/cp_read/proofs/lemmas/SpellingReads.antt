-- What the pieces of a term are read as: by the rules of the grammar the term, before whatever may stand behind it.
use Rattle.std.proofs.Common.{◌≡◌, ℕ, ◌<◌, ◌≤◌, Bool, true, false, cond, ◌||◌, ◌&&◌, List, [], ◌∷◌, ◌++◌, refl, sym, ◌∙◌, ap, subst, arith, append_assoc}
use Rattle.std.specs.Prelude.{nat_lt, nat_eq, ⊤, Option, Some, None, codes}
use Rattle.std.specs.Str.{bytes_eq}
use Rattle.std.proofs.lemmas.Bool.{le-leb, ltb-false, le-ltb, eqb-false}
use Rattle.std.proofs.lemmas.Slice.Eq.{bytes_eq-Decides}
use Rattle.cp_term.specs.declared.cell.Cell.{Cell}
use Rattle.cp_term.specs.declared.cell.Cell.TheVariants.{Func}
use Rattle.cp_ops.specs.declared.fix.Fix.{Fix}
use Rattle.cp_ops.specs.declared.fix.Fix.TheVariants.{Xfx, Xfy, Yfx, Fy, Fx}
use Rattle.cp_ops.specs.Operators.{Ops, look_up, left_of, right_of, IsTable}
use Rattle.cp_ops.specs.Text.{ends_in_operand}
use Rattle.cp_read.specs.Lexemes.{Lexeme, name}
use Rattle.cp_read.specs.Grammar.{Read, Infix, infix_by, infix_at, Prefix, prefix_by, is_prefix_within, begins_operand, empty_list}
use Rattle.cp_read.specs.Derivation.{is_plain, operator_by, operator_here, ReadsTerm, ReadsOperand, ReadsElements, GoesOn, term, prefix_operator, parentheses, call_parentheses, ends, operator}
use Rattle.cp_read.specs.Pieces.{Piece, word, sign, space, begins_digits}
use Rattle.cp_read.proofs.lemmas.Spelling.{Shape, operator_atom, empty_brackets, elements, operation, simple, Spelling, in_parentheses, within, operand_by, operand, would_take, left_operand, gap, gap_before, gap_behind, middle}
use Rattle.cp_read.proofs.lemmas.Surroundings.{and_false, lexed, Closing, at_parenthesis, at_comma, Behind, closing, before_space, before_word, not_called, prefix_priority, infix_priority, infix_of, left_below, right_below, Beyond, beyond_more, beyond_parenthesis, not_admitted, is_admitted}

-- the greatest priority that the last operand of a term may have, or 0 where none is at its end
abbrev pub open_by : Shape → ℕ → ℕ
open_by operator_atom p = 0
open_by empty_brackets p = 0
open_by (elements es) p = 0
open_by (operation fix) p = right_of p fix
open_by simple p = 0

abbrev pub open_of : Spelling → ℕ
open_of t = open_by (t.shape) (t.priority)

-- a bare operator stands before what ends a term
abbrev pub EndsIfBare : Shape → List Piece → Type 0
EndsIfBare operator_atom more = Closing more
EndsIfBare empty_brackets more = ⊤
EndsIfBare (elements es) more = ⊤
EndsIfBare (operation fix) more = ⊤
EndsIfBare simple more = ⊤

abbrev pub IsNotBare : Shape → Type 0
IsNotBare operator_atom = ⊥
IsNotBare empty_brackets = ⊤
IsNotBare (elements es) = ⊤
IsNotBare (operation fix) = ⊤
IsNotBare simple = ⊤

-- these pieces may stand behind a term
pub record Follows (ops : Ops) (t : Spelling) (more : List Piece) : Type 0 where
  pub behind : Behind more
  pub ending : EndsIfBare (t.shape) more
  pub beyond : Beyond ops (open_of t) (lexed false more)

-- the term with what stands behind it
abbrev pub read_before : Spelling → List Piece → Read
read_before t more = record { cells = t.cells; priority = t.priority; rest = lexed false more }

-- what a list adds to be the tail of another
abbrev pub ReadsTail : Ops → Spelling → Shape → Type 0
ReadsTail ops t operator_atom = ⊤
ReadsTail ops t empty_brackets = t.cells ≡ empty_list ∷ []
ReadsTail ops t (elements es) = (more : List Piece) → ReadsElements ops (t.cells) (lexed false (es ++ sign 93 ∷ more)) (lexed false more)
ReadsTail ops t (operation fix) = ⊤
ReadsTail ops t simple = ⊤

-- The pieces are read as the term wherever it may stand, and the reading goes on from there as from the term.
pub record IsRead (ops : Ops) (t : Spelling) : Type 0 where
  pub reads : (b : Bool) (max : ℕ) (more : List Piece) (y : Read) → t.priority ≤ max → Follows ops t more → GoesOn ops max (read_before t more) y → ReadsTerm ops max (lexed b (t.pieces ++ more)) y
  pub begins : (b : Bool) (max : ℕ) (more : List Piece) → t.priority ≤ max → IsNotBare (t.shape) → begins_operand ops max (lexed b (t.pieces ++ more)) ≡ true
  pub tail : ReadsTail ops t (t.shape)
  pub low : t.priority ≤ 1200

ends_unless : (s : Shape) (more : List Piece) → IsNotBare s → EndsIfBare s more
ends_unless operator_atom more h = absurd h
ends_unless empty_brackets more h = tt
ends_unless (elements es) more h = tt
ends_unless (operation fix) more h = tt
ends_unless simple more h = tt

ends_closing : (s : Shape) (more : List Piece) → Closing more → EndsIfBare s more
ends_closing operator_atom more h = h
ends_closing empty_brackets more h = tt
ends_closing (elements es) more h = tt
ends_closing (operation fix) more h = tt
ends_closing simple more h = tt

open_below : (s : Shape) (p : ℕ) → open_by s p ≤ p
open_below operator_atom p = omega arith
open_below empty_brackets p = omega arith
open_below (elements es) p = omega arith
open_below (operation fix) p = right_below p fix
open_below simple p = omega arith

-- a term of at most a priority, before what no operator of that priority goes on from
pub read_within : (ops : Ops) (t : Spelling) (b : Bool) (max : ℕ) (more : List Piece) → IsRead ops t → t.priority ≤ max → Behind more → EndsIfBare (t.shape) more → Beyond ops max (lexed false more) →
    ReadsTerm ops max (lexed b (t.pieces ++ more)) (read_before t more)
read_within ops t b max more h le behind ending beyond =
    let below : open_of t ≤ t.priority = open_below (t.shape) (t.priority) in
    h.reads b max more (read_before t more) le
    (record { behind = behind; ending = ending; beyond = beyond_more ops (open_of t) max (lexed false more) (omega (arith, below, le)) beyond })
    (ends max (read_before t more) (not_admitted ops max (read_before t more) beyond))

-- the same before what ends a term
pub read_closed : (ops : Ops) (t : Spelling) (b : Bool) (max : ℕ) (more : List Piece) → IsRead ops t → t.priority ≤ max → Closing more → Beyond ops max (lexed false more) →
    ReadsTerm ops max (lexed b (t.pieces ++ more)) (read_before t more)
read_closed ops t b max more h le c beyond = read_within ops t b max more h le (closing more c) (ends_closing (t.shape) more c) beyond

-- ---- parentheses

open_parenthesis : (ops : Ops) (b : Bool) (max : ℕ) (ps more : List Piece) (x : Read) → ReadsTerm ops 1200 (lexed false (ps ++ sign 41 ∷ more)) x → x.rest ≡ lexed false (sign 41 ∷ more) →
    ReadsOperand ops max (lexed b (sign 40 ∷ (ps ++ sign 41 ∷ more))) (record { cells = x.cells; priority = 0; rest = lexed false more })
open_parenthesis ops true max ps more x inner closed = call_parentheses max (lexed false (ps ++ sign 41 ∷ more)) (lexed false more) x inner closed
open_parenthesis ops false max ps more x inner closed = parentheses max (lexed false (ps ++ sign 41 ∷ more)) (lexed false more) x inner closed

parenthesis_begins : (ops : Ops) (b : Bool) (max : ℕ) (ps : List Piece) → begins_operand ops max (lexed b (sign 40 ∷ ps)) ≡ true
parenthesis_begins ops true max ps = refl
parenthesis_begins ops false max ps = refl

pub in_parentheses-read : (ops : Ops) (t : Spelling) → IsRead ops t → IsRead ops (in_parentheses t)
in_parentheses-read ops t h = record {
  reads = λ b max more y le st go.
      subst (λ (ps : List Piece). ReadsTerm ops max (lexed b (sign 40 ∷ ps)) y) (sym (append_assoc (t.pieces) (sign 41 ∷ []) more))
      (term max (lexed b (sign 40 ∷ (t.pieces ++ sign 41 ∷ more))) (read_before (in_parentheses t) more) y
      (open_parenthesis ops b max (t.pieces) more (read_before t (sign 41 ∷ more)) (read_closed ops t false 1200 (sign 41 ∷ more) h (h.low) (at_parenthesis more) (beyond_parenthesis ops 1200 more)) refl)
      go);
  begins = λ b max more le bare. parenthesis_begins ops b max ((t.pieces ++ sign 41 ∷ []) ++ more);
  tail = tt;
  low = omega arith;
}

-- ---- a term where at most a priority is allowed

pub record IsWithin (ops : Ops) (max : ℕ) (cells : List Cell) (t : Spelling) : Type 0 where
  pub read : IsRead ops t
  pub low : t.priority ≤ max
  pub same : t.cells ≡ cells

in_parentheses-within : (ops : Ops) (max : ℕ) (t : Spelling) → IsRead ops t → IsWithin ops max (t.cells) (in_parentheses t)
in_parentheses-within ops max t h = record { read = in_parentheses-read ops t h; low = omega arith; same = refl }

pub within-read : (ops : Ops) (max : ℕ) (t : Spelling) → IsRead ops t → IsWithin ops max (t.cells) (within max t)
within-read ops max t h =
    elim (nat_lt max (t.priority)) as (λ b. nat_lt max (t.priority) ≡ b → IsWithin ops max (t.cells) (cond b (in_parentheses t) t)) [
      | true ↦ λ e. in_parentheses-within ops max t h
      | false ↦ λ e. record { read = h; low = ltb-false max (t.priority) e; same = refl }
    ] refl

-- an operand: no bare operator
pub record IsOperand (ops : Ops) (max : ℕ) (cells : List Cell) (t : Spelling) : Type 0 where
  pub within : IsWithin ops max cells t
  pub bare : IsNotBare (t.shape)

in_parentheses-operand : (ops : Ops) (max : ℕ) (t : Spelling) → IsRead ops t → IsOperand ops max (t.cells) (in_parentheses t)
in_parentheses-operand ops max t h = record { within = in_parentheses-within ops max t h; bare = tt }

within-operand : (ops : Ops) (max : ℕ) (t : Spelling) → IsRead ops t → IsNotBare (t.shape) → IsOperand ops max (t.cells) (within max t)
within-operand ops max t h bare =
    elim (nat_lt max (t.priority)) as (λ b. nat_lt max (t.priority) ≡ b → IsOperand ops max (t.cells) (cond b (in_parentheses t) t)) [
      | true ↦ λ e. in_parentheses-operand ops max t h
      | false ↦ λ e. record { within = record { read = h; low = ltb-false max (t.priority) e; same = refl }; bare = bare }
    ] refl

operand_by-read : (ops : Ops) (max : ℕ) (t : Spelling) (s : Shape) → t.shape ≡ s → IsRead ops t → IsOperand ops max (t.cells) (operand_by s max t)
operand_by-read ops max t operator_atom e h = in_parentheses-operand ops max t h
operand_by-read ops max t empty_brackets e h = within-operand ops max t h (subst IsNotBare (sym e) tt)
operand_by-read ops max t (elements es) e h = within-operand ops max t h (subst IsNotBare (sym e) tt)
operand_by-read ops max t (operation fix) e h = within-operand ops max t h (subst IsNotBare (sym e) tt)
operand_by-read ops max t simple e h = within-operand ops max t h (subst IsNotBare (sym e) tt)

pub operand-read : (ops : Ops) (max : ℕ) (t : Spelling) → IsRead ops t → IsOperand ops max (t.cells) (operand max t)
operand-read ops max t h = operand_by-read ops max t (t.shape) refl h

-- a left operand, from which no operator of this priority goes on further inside
pub record IsLeft (ops : Ops) (p max : ℕ) (cells : List Cell) (t : Spelling) : Type 0 where
  pub operand : IsOperand ops max cells t
  pub shut : open_of t < p

ends_open : (p own : ℕ) (fix : Fix) → own ≤ p → 0 < p → (ends_in_operand fix && nat_eq own p) ≡ false → right_of own fix < p
ends_open p own Xfy le some e = let ne : own ≡ p → ⊥ = eqb-false own p e in omega (arith, le, ne)
ends_open p own Fy le some e = let ne : own ≡ p → ⊥ = eqb-false own p e in omega (arith, le, ne)
ends_open p own Xfx le some e = omega (arith, le, some)
ends_open p own Yfx le some e = omega (arith, le, some)
ends_open p own Fx le some e = omega (arith, le, some)

shut_by : (s : Shape) (own p max : ℕ) → own ≤ max → max ≤ p → 0 < p → would_take s own p ≡ false → open_by s own < p
shut_by operator_atom own p max le lo some e = some
shut_by empty_brackets own p max le lo some e = some
shut_by (elements es) own p max le lo some e = some
shut_by (operation fix) own p max le lo some e = ends_open p own fix (omega (arith, le, lo)) some e
shut_by simple own p max le lo some e = some

in_parentheses-left : (ops : Ops) (p max : ℕ) (t : Spelling) → 0 < p → IsRead ops t → IsLeft ops p max (t.cells) (in_parentheses t)
in_parentheses-left ops p max t some h = record { operand = in_parentheses-operand ops max t h; shut = some }

within-left : (ops : Ops) (p max : ℕ) (t : Spelling) → 0 < p → max ≤ p → IsRead ops t → IsNotBare (t.shape) → would_take (t.shape) (t.priority) p ≡ false → IsLeft ops p max (t.cells) (within max t)
within-left ops p max t some lo h bare free =
    elim (nat_lt max (t.priority)) as (λ b. nat_lt max (t.priority) ≡ b → IsLeft ops p max (t.cells) (cond b (in_parentheses t) t)) [
      | true ↦ λ e. in_parentheses-left ops p max t some h
      | false ↦ λ e. record {
        operand = record { within = record { read = h; low = ltb-false max (t.priority) e; same = refl }; bare = bare };
        shut = shut_by (t.shape) (t.priority) p max (ltb-false max (t.priority) e) lo some free;
      }
    ] refl

operand_by-left : (ops : Ops) (p max : ℕ) (t : Spelling) (s : Shape) → t.shape ≡ s → 0 < p → max ≤ p → IsRead ops t → would_take (t.shape) (t.priority) p ≡ false → IsLeft ops p max (t.cells) (operand_by s max t)
operand_by-left ops p max t operator_atom e some lo h free = in_parentheses-left ops p max t some h
operand_by-left ops p max t empty_brackets e some lo h free = within-left ops p max t some lo h (subst IsNotBare (sym e) tt) free
operand_by-left ops p max t (elements es) e some lo h free = within-left ops p max t some lo h (subst IsNotBare (sym e) tt) free
operand_by-left ops p max t (operation fix) e some lo h free = within-left ops p max t some lo h (subst IsNotBare (sym e) tt) free
operand_by-left ops p max t simple e some lo h free = within-left ops p max t some lo h (subst IsNotBare (sym e) tt) free

pub left_operand-read : (ops : Ops) (p : ℕ) (fix : Fix) (t : Spelling) → 0 < p → IsRead ops t → IsLeft ops p (left_of p fix) (t.cells) (left_operand p fix t)
left_operand-read ops p fix t some h =
    elim (would_take (t.shape) (t.priority) p) as (λ b. would_take (t.shape) (t.priority) p ≡ b → IsLeft ops p (left_of p fix) (t.cells) (cond b (in_parentheses t) (operand (left_of p fix) t))) [
      | true ↦ λ e. in_parentheses-left ops p (left_of p fix) t some h
      | false ↦ λ e. operand_by-left ops p (left_of p fix) t (t.shape) refl some (left_below p fix) h e
    ] refl

-- ---- prefix operators

last_of_four : (a b c d : Bool) → d ≡ true → (a || b || c || d) ≡ true
last_of_four true b c d h = refl
last_of_four false true c d h = refl
last_of_four false false true d h = refl
last_of_four false false false d h = h

-- the word is a prefix operator of its own priority, whose operand follows
prefix_here : (ops : Ops) (max : ℕ) (called : List ℕ) (op : ℕ × Fix) (ls : List Lexeme) → look_up (ops.prefixes) called ≡ Some op → op.0 ≤ max → begins_operand ops (right_of (op.0) (op.1)) ls ≡ true →
    operator_here ops max called ls ≡ Some (record { priority = op.0; right = right_of (op.0) (op.1) })
prefix_here ops max called op ls found low begins =
    ap (λ o. operator_by ops (prefix_by max o) ls) found
    ∙ (ap (λ b. operator_by ops (Some (cond b (record { priority = 999; right = 999 }) (record { priority = op.0; right = right_of (op.0) (op.1) }))) ls) (le-ltb max (op.0) low)
    ∙ ap (λ (b : Bool). elim b as (λ _. Option Prefix) [ true ↦ Some (record { priority = op.0; right = right_of (op.0) (op.1) }) | false ↦ None ]) begins)

module _ (ops : Ops) (table : IsTable ops) where
  -- a prefix operator before its operand
  abbrev pub prefix_of : List ℕ → ℕ × Fix → Spelling → Spelling → Spelling
  prefix_of called op t u = record {
    cells = Func called 1 ∷ t.cells;
    pieces = word called ∷ space ∷ u.pieces;
    priority = op.0;
    shape = operation (op.1);
  }

  prefix_operand : (called : List ℕ) (op : ℕ × Fix) (t u : Spelling) (max : ℕ) (more : List Piece) → look_up (ops.prefixes) called ≡ Some op → IsOperand ops (right_of (op.0) (op.1)) (t.cells) u → op.0 ≤ max → Follows ops (prefix_of called op t u) more →
      ReadsOperand ops max (name called (bytes_eq called (codes "-") && false) ∷ lexed false (u.pieces ++ more)) (read_before (prefix_of called op t u) more)
  prefix_operand called op t u max more found h low st =
      let right = right_of (op.0) (op.1) in
      let inner = read_within ops u false right more (h.within.read) (h.within.low) (st.behind) (ends_unless (u.shape) more (h.bare)) (st.beyond) in
      let begins = h.within.read.begins false right more (h.within.low) (h.bare) in
      let signs = bytes_eq called (codes "-") && false in
      let plain : is_plain signs (lexed false (u.pieces ++ more)) ≡ true = ap (λ s. is_plain s (lexed false (u.pieces ++ more))) (and_false (bytes_eq called (codes "-"))) ∙ not_called (u.pieces ++ more) in
      subst (λ (cells : List Cell). ReadsOperand ops max (name called signs ∷ lexed false (u.pieces ++ more)) (record { cells = Func called 1 ∷ cells; priority = op.0; rest = lexed false more })) (h.within.same)
      (prefix_operator max called signs (record { priority = op.0; right = right }) (lexed false (u.pieces ++ more)) (read_before u more) plain (prefix_here ops max called op (lexed false (u.pieces ++ more)) found low begins) inner)

  prefix_begins : (called : List ℕ) (op : ℕ × Fix) (signs : Bool) (max : ℕ) (ls : List Lexeme) → look_up (ops.prefixes) called ≡ Some op → op.0 ≤ max → begins_operand ops max (name called signs ∷ ls) ≡ true
  prefix_begins called op signs max ls found low =
      last_of_four signs _ _ (is_prefix_within ops max (look_up (ops.prefixes) called)) (ap (λ o. is_prefix_within ops max o) found ∙ le-leb (op.0) max low)

  pub prefix_of-read : (called : List ℕ) (op : ℕ × Fix) (t u : Spelling) → look_up (ops.prefixes) called ≡ Some op → IsOperand ops (right_of (op.0) (op.1)) (t.cells) u → IsRead ops (prefix_of called op t u)
  prefix_of-read called op t u found h = record {
    reads = λ b max more y le st go.
        term max (name called (bytes_eq called (codes "-") && false) ∷ lexed false (u.pieces ++ more)) (read_before (prefix_of called op t u) more) y
        (prefix_operand called op t u max more found h le st) go;
    begins = λ b max more le bare. prefix_begins called op (bytes_eq called (codes "-") && false) max (lexed false (u.pieces ++ more)) found le;
    tail = tt;
    low = (prefix_priority ops table called op found).low;
  }

-- ---- infix operators

-- pieces between two operands that are one infix operator
pub record IsMiddle (ops : Ops) (called : List ℕ) (op : ℕ × Fix) (m : List Piece) : Type 0 where
  pub word_last : Bool
  pub at : (qs : List Piece) → infix_at ops (lexed false (m ++ qs)) ≡ Some (infix_of called op (lexed word_last qs))
  pub behind : (qs : List Piece) → Behind (m ++ qs)

infix_found : (ops : Ops) (called : List ℕ) (op : ℕ × Fix) (signs : Bool) (ls : List Lexeme) → look_up (ops.infixes) called ≡ Some op → infix_at ops (name called signs ∷ ls) ≡ Some (infix_of called op ls)
infix_found ops called op signs ls found = ap (λ o. infix_by called ls o) found

word_middle : (ops : Ops) (called : List ℕ) (op : ℕ × Fix) (s t : Bool) → look_up (ops.infixes) called ≡ Some op → IsMiddle ops called op (gap s ++ (word called ∷ gap t))
word_middle ops called op true true found = record { word_last = false; at = λ qs. infix_found ops called op (bytes_eq called (codes "-") && false) (lexed false qs) found; behind = λ qs. before_space _ }
word_middle ops called op true false found = record { word_last = true; at = λ qs. infix_found ops called op (bytes_eq called (codes "-") && begins_digits qs) (lexed true qs) found; behind = λ qs. before_space _ }
word_middle ops called op false true found = record { word_last = false; at = λ qs. infix_found ops called op (bytes_eq called (codes "-") && false) (lexed false qs) found; behind = λ qs. before_word _ _ }
word_middle ops called op false false found = record { word_last = true; at = λ qs. infix_found ops called op (bytes_eq called (codes "-") && begins_digits qs) (lexed true qs) found; behind = λ qs. before_word _ _ }

comma_middle : (ops : Ops) (op : ℕ × Fix) → look_up (ops.infixes) (codes ",") ≡ Some op → IsMiddle ops (codes ",") op (sign 44 ∷ [])
comma_middle ops op found = record {
  word_last = false;
  at = λ qs. ap (λ o. infix_by (codes ",") (lexed false qs) o) found;
  behind = λ qs. closing _ (at_comma qs);
}

pub middle-is : (ops : Ops) (called : List ℕ) (op : ℕ × Fix) (left right : List Piece) → look_up (ops.infixes) called ≡ Some op → IsMiddle ops called op (middle called left right)
middle-is ops called op left right found =
    elim (bytes_eq called (codes ",")) as (λ b. bytes_eq called (codes ",") ≡ b → IsMiddle ops called op (cond b (sign 44 ∷ []) (gap (gap_before called left) ++ (word called ∷ gap (gap_behind called right))))) [
      | true ↦ λ e.
          let same : called ≡ codes "," = (bytes_eq-Decides called (codes ",")).0 e in
          subst (λ n. IsMiddle ops n op (sign 44 ∷ [])) (sym same) (comma_middle ops op (subst (λ n. look_up (ops.infixes) n ≡ Some op) same found))
      | false ↦ λ e. word_middle ops called op (gap_before called left) (gap_behind called right) found
    ] refl

-- two operands with an infix operator between them
abbrev pub infix_between : List ℕ → ℕ × Fix → List Cell → List Cell → Spelling → Spelling → List Piece → Spelling
infix_between called op a b t u m = record {
  cells = Func called 2 ∷ a ++ b;
  pieces = t.pieces ++ (m ++ u.pieces);
  priority = op.0;
  shape = operation (op.1);
}

module _ (ops : Ops) (table : IsTable ops) (called : List ℕ) (op : ℕ × Fix) (found : look_up (ops.infixes) called ≡ Some op) where
  -- from the left operand on
  infix_goes : (t u : Spelling) (m : List Piece) (max : ℕ) (more : List Piece) (y : Read) (mid : IsMiddle ops called op m) → IsLeft ops (op.0) (left_of (op.0) (op.1)) (t.cells) t → IsOperand ops (right_of (op.0) (op.1)) (u.cells) u →
      op.0 ≤ max → Follows ops (infix_between called op (t.cells) (u.cells) t u m) more → GoesOn ops max (read_before (infix_between called op (t.cells) (u.cells) t u m) more) y →
      GoesOn ops max (read_before t (m ++ (u.pieces ++ more))) y
  infix_goes t u m max more y mid h k low st go =
      let right = right_of (op.0) (op.1) in
      let qs = u.pieces ++ more in
      let inner = read_within ops u (mid.word_last) right more (k.within.read) (k.within.low) (st.behind) (ends_unless (u.shape) more (k.bare)) (st.beyond) in
      operator max (read_before t (m ++ qs)) (read_before u more) y (infix_of called op (lexed (mid.word_last) qs))
      (is_admitted ops max (read_before t (m ++ qs)) (infix_of called op (lexed (mid.word_last) qs)) (mid.at qs) low (h.operand.within.low)) inner go

  infix_beyond : (m : List Piece) (n : ℕ) (mid : IsMiddle ops called op m) (qs : List Piece) → n < op.0 → Beyond ops n (lexed false (m ++ qs))
  infix_beyond m n mid qs lt q e = subst (λ (x : Infix). n < x.priority) (same _ q (sym (mid.at qs) ∙ e)) lt
    where
      same : (a b : Infix) → Some a ≡ Some b → a ≡ b
      same a b g = cc

  infix_pieces-append : (t m u more : List Piece) → (t ++ (m ++ u)) ++ more ≡ t ++ (m ++ (u ++ more))
  infix_pieces-append t m u more = append_assoc t (m ++ u) more ∙ ap (λ x. t ++ x) (append_assoc m u more)

  infix_between-read : (t u : Spelling) (m : List Piece) → IsMiddle ops called op m → IsLeft ops (op.0) (left_of (op.0) (op.1)) (t.cells) t → IsOperand ops (right_of (op.0) (op.1)) (u.cells) u →
      IsRead ops (infix_between called op (t.cells) (u.cells) t u m)
  infix_between-read t u m mid h k =
      let leftmost : t.priority ≤ left_of (op.0) (op.1) = h.operand.within.low in
      let below : left_of (op.0) (op.1) ≤ op.0 = left_below (op.0) (op.1) in
      record {
        reads = λ b max more y le st go.
            subst (λ ps. ReadsTerm ops max (lexed b ps) y) (sym (infix_pieces-append (t.pieces) m (u.pieces) more))
            (h.operand.within.read.reads b max (m ++ (u.pieces ++ more)) y (omega (arith, leftmost, below, le))
            (record {
              behind = mid.behind (u.pieces ++ more);
              ending = ends_unless (t.shape) _ (h.operand.bare);
              beyond = infix_beyond m (open_of t) mid (u.pieces ++ more) (h.shut);
            })
            (infix_goes t u m max more y mid h k le st go));
        begins = λ b max more le bare.
            subst (λ ps. begins_operand ops max (lexed b ps) ≡ true) (sym (infix_pieces-append (t.pieces) m (u.pieces) more))
            (h.operand.within.read.begins b max (m ++ (u.pieces ++ more)) (omega (arith, leftmost, below, le)) (h.operand.bare));
        tail = tt;
        low = (infix_priority ops table called op found).low;
      }

  -- the same for operands that have the cells of others
  pub infix_of-read : (a c : List Cell) (t u : Spelling) (m : List Piece) → IsMiddle ops called op m → IsLeft ops (op.0) (left_of (op.0) (op.1)) a t → IsOperand ops (right_of (op.0) (op.1)) c u →
      IsRead ops (infix_between called op a c t u m)
  infix_of-read a c t u m mid h k =
      let e = h.operand.within.same in
      let f = k.within.same in
      let h' = subst (λ cells. IsLeft ops (op.0) (left_of (op.0) (op.1)) cells t) (sym e) h in
      let k' = subst (λ cells. IsOperand ops (right_of (op.0) (op.1)) cells u) (sym f) k in
      subst (λ cells. IsRead ops (infix_between called op cells c t u m)) e (subst (λ cells. IsRead ops (infix_between called op (t.cells) cells t u m)) f (infix_between-read t u m mid h' k'))
