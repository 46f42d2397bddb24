-- What stands behind a term in its text, and what an operator table has.
use Rattle.std.proofs.Common.{◌≡◌, ℕ, ◌<◌, ◌≤◌, Bool, true, false, cond, not, ◌||◌, ◌&&◌, List, [], ◌∷◌, ◌++◌, refl, sym, ◌∙◌, ap, subst, arith}
use Rattle.std.specs.Prelude.{nat_lt, nat_le, Option, Some, None, codes}
use Rattle.std.specs.List.{list_all}
use Rattle.std.specs.Str.{bytes_eq}
use Rattle.std.proofs.lemmas.Bool.{and_parts, leb-true, ltb-true, le-leb, lt-leb}
use Rattle.std.proofs.lemmas.Slice.Eq.{bytes_eq-Decides}
use Rattle.cp_char.specs.Characters.{◌∈◌}
use Rattle.cp_ops.specs.declared.fix.Fix.{Fix}
use Rattle.cp_ops.specs.declared.fix.Fix.TheVariants.{Xfx, Xfy, Yfx, Fy, Fx}
use Rattle.cp_ops.specs.Table.{OpRow}
use Rattle.cp_ops.specs.Operators.{Ops, look_up, left_of, right_of, has_name, has_priority, is_prefix, is_fixed, is_prefix_row, is_infix_row, IsTable}
use Rattle.cp_read.specs.Lexemes.{Lexeme, opens, closes, list_opens, list_closes, braces_open, braces_close, comma, bar, clause_ends, stray, bracket}
use Rattle.cp_read.specs.Grammar.{Read, Infix, infix_by, infix_at, admitted_by, admitted, begins_operand}
use Rattle.cp_read.specs.Derivation.{is_plain}
use Rattle.cp_read.specs.Pieces.{Piece, variable, digits, word, quoted, sign, space, begins_digits, spelled}

-- the lexemes of pieces and the end of the clause
abbrev pub lexed : Bool → List Piece → List Lexeme
lexed b ps = spelled b ps ++ clause_ends ∷ []

-- what ends every term before it
pub data Closing : List Piece → Type 0 where
  at_end : Closing []
  at_parenthesis : (ps : List Piece) → Closing (sign 41 ∷ ps)
  at_bracket : (ps : List Piece) → Closing (sign 93 ∷ ps)
  at_brace : (ps : List Piece) → Closing (sign 125 ∷ ps)
  at_comma : (ps : List Piece) → Closing (sign 44 ∷ ps)
  at_bar : (ps : List Piece) → Closing (sign 124 ∷ ps)

-- the same, or an infix operator
pub data Behind : List Piece → Type 0 where
  closing : (ps : List Piece) → Closing ps → Behind ps
  before_space : (ps : List Piece) → Behind (space ∷ ps)
  before_word : (a : List ℕ) (ps : List Piece) → Behind (word a ∷ ps)

pub behind_word : (b : Bool) (ps : List Piece) → Behind ps → lexed b ps ≡ lexed false ps
behind_word false ps h = refl
behind_word true _ (closing _ at_end) = refl
behind_word true _ (closing _ (at_parenthesis ps)) = refl
behind_word true _ (closing _ (at_bracket ps)) = refl
behind_word true _ (closing _ (at_brace ps)) = refl
behind_word true _ (closing _ (at_comma ps)) = refl
behind_word true _ (closing _ (at_bar ps)) = refl
behind_word true _ (before_space ps) = refl
behind_word true _ (before_word a ps) = refl

pub behind_minus : (ps : List Piece) → Behind ps → begins_digits ps ≡ false
behind_minus _ (closing _ at_end) = refl
behind_minus _ (closing _ (at_parenthesis ps)) = refl
behind_minus _ (closing _ (at_bracket ps)) = refl
behind_minus _ (closing _ (at_brace ps)) = refl
behind_minus _ (closing _ (at_comma ps)) = refl
behind_minus _ (closing _ (at_bar ps)) = refl
behind_minus _ (before_space ps) = refl
behind_minus _ (before_word a ps) = refl

-- no operand begins with what ends a term
pub closing_begins : (ops : Ops) (max : ℕ) (ps : List Piece) → Closing ps → begins_operand ops max (lexed false ps) ≡ false
closing_begins ops max _ at_end = refl
closing_begins ops max _ (at_parenthesis ps) = refl
closing_begins ops max _ (at_bracket ps) = refl
closing_begins ops max _ (at_brace ps) = refl
closing_begins ops max _ (at_comma ps) = refl
closing_begins ops max _ (at_bar ps) = refl

pub and_false : (b : Bool) → (b && false) ≡ false
and_false true = refl
and_false false = refl

-- a lexeme that is no sign of a call
abbrev IsNoCall : Lexeme → Type 0
IsNoCall l = (ls : List Lexeme) → is_plain false (l ∷ ls) ≡ true

either : (b : Bool) (l m : Lexeme) → IsNoCall l → IsNoCall m → IsNoCall (cond b l m)
either true l m f g = f
either false l m f g = g

bracket_plain : (c : ℕ) → IsNoCall (bracket c)
bracket_plain c =
    either (c ∈ "(") opens _ (λ ls. refl) (either (c ∈ ")") closes _ (λ ls. refl) (either (c ∈ "[") list_opens _ (λ ls. refl) (either (c ∈ "]") list_closes _ (λ ls. refl)
    (either (c ∈ "{") braces_open _ (λ ls. refl) (either (c ∈ "}") braces_close _ (λ ls. refl) (either (c ∈ ",") comma _ (λ ls. refl) (either (c ∈ "|") bar stray (λ ls. refl) (λ ls. refl))))))))

-- no call opens where no word stands directly in front
pub not_called : (ps : List Piece) → is_plain false (lexed false ps) ≡ true
not_called [] = refl
not_called (variable n ∷ ps) = refl
not_called (digits n ∷ ps) = refl
not_called (word a ∷ ps) = refl
not_called (quoted a ∷ ps) = refl
not_called (sign c ∷ ps) = bracket_plain c (lexed false ps)
not_called (space ∷ ps) = not_called ps

-- ---- operators of a table

-- a priority is 1 to 1200
pub record IsPriority (p : ℕ) : Type 0 where
  pub some : 0 < p
  pub low : p ≤ 1200

pub row_priority : (r : OpRow) → has_priority r ≡ true → IsPriority (r.priority)
row_priority r h =
    let p = and_parts (nat_lt 0 (r.priority)) (nat_le (r.priority) 1200) h in
    record { some = ltb-true 0 (r.priority) (p.0); low = leb-true (r.priority) 1200 (p.1) }

-- what holds of each row holds of the one that is found
found_row : (test : OpRow → Bool) (rows : List OpRow) (called : List ℕ) (op : ℕ × Fix) → list_all test rows ≡ true → look_up rows called ≡ Some op →
    (r : OpRow) × (test r ≡ true) × (has_name called r ≡ true) × (r.priority ≡ op.0) × (r.fix ≡ op.1)
found_row test [] called op h e = absurd (let none : ⊥ = cc in none)
found_row test (r ∷ rows) called op h e =
    let p = and_parts (test r) (list_all test rows) h in
    elim (has_name called r) as (λ b. has_name called r ≡ b → cond b (Some (r.priority, r.fix)) (look_up rows called) ≡ Some op →
    (s : OpRow) × (test s ≡ true) × (has_name called s ≡ true) × (s.priority ≡ op.0) × (s.fix ≡ op.1)) [
      | true ↦ λ n f. (r, p.0, n, ap (λ (q : ℕ × Fix). q.0) (same (r.priority, r.fix) op f), ap (λ (q : ℕ × Fix). q.1) (same (r.priority, r.fix) op f))
      | false ↦ λ n f. found_row test rows called op (p.1) f
    ] refl e
  where
    same : (a b : ℕ × Fix) → Some a ≡ Some b → a ≡ b
    same a b g = cc

pub not_true : (b : Bool) → not b ≡ true → b ≡ false
not_true true h = absurd (let none : ⊥ = cc in none)
not_true false h = refl

module _ (ops : Ops) (table : IsTable ops) where
  prefix_found : (called : List ℕ) (op : ℕ × Fix) → look_up (ops.prefixes) called ≡ Some op → IsPriority (op.0) × (is_fixed called ≡ false)
  prefix_found called op e =
      let f = found_row is_prefix_row (ops.prefixes) called op table.prefixes e in
      let r = f.0 in
      let p = and_parts (has_priority r && is_prefix (r.fix)) (not (is_fixed (r.name))) (f.1) in
      let q = and_parts (has_priority r) (is_prefix (r.fix)) (p.0) in
      let named : called ≡ r.name = (bytes_eq-Decides called (r.name)).0 (f.2) in
      (subst IsPriority (f.3) (row_priority r (q.0)), ap is_fixed named ∙ not_true (is_fixed (r.name)) (p.1))

  infix_found : (called : List ℕ) (op : ℕ × Fix) → look_up (ops.infixes) called ≡ Some op → IsPriority (op.0) × ((not (is_fixed called) || bytes_eq called (codes ",")) ≡ true)
  infix_found called op e =
      let f = found_row is_infix_row (ops.infixes) called op table.infixes e in
      let r = f.0 in
      let p = and_parts (has_priority r && not (is_prefix (r.fix))) (not (is_fixed (r.name)) || bytes_eq (r.name) (codes ",")) (f.1) in
      let q = and_parts (has_priority r) (not (is_prefix (r.fix))) (p.0) in
      let named : called ≡ r.name = (bytes_eq-Decides called (r.name)).0 (f.2) in
      (subst IsPriority (f.3) (row_priority r (q.0)), ap (λ n. not (is_fixed n) || bytes_eq n (codes ",")) named ∙ p.1)

  pub prefix_priority : (called : List ℕ) (op : ℕ × Fix) → look_up (ops.prefixes) called ≡ Some op → IsPriority (op.0)
  prefix_priority called op e = (prefix_found called op e).0

  pub prefix_free : (called : List ℕ) (op : ℕ × Fix) → look_up (ops.prefixes) called ≡ Some op → is_fixed called ≡ false
  prefix_free called op e = (prefix_found called op e).1

  pub infix_priority : (called : List ℕ) (op : ℕ × Fix) → look_up (ops.infixes) called ≡ Some op → IsPriority (op.0)
  infix_priority called op e = (infix_found called op e).0

  pub infix_free : (called : List ℕ) (op : ℕ × Fix) → look_up (ops.infixes) called ≡ Some op → (not (is_fixed called) || bytes_eq called (codes ",")) ≡ true
  infix_free called op e = (infix_found called op e).1

  pub comma_found : (op : ℕ × Fix) → look_up (ops.infixes) (codes ",") ≡ Some op → op.0 ≡ 1000
  comma_found op e = ap (λ (q : ℕ × Fix). q.0) (same op (1000, Xfy) (sym e ∙ table.comma))
    where
      same : (a b : ℕ × Fix) → Some a ≡ Some b → a ≡ b
      same a b g = cc

-- an infix operator with its name and what follows it
abbrev pub infix_of : List ℕ → ℕ × Fix → List Lexeme → Infix
infix_of called op ls = record { name = called; priority = op.0; left = left_of (op.0) (op.1); right = right_of (op.0) (op.1); rest = ls }

pub left_below : (p : ℕ) (fix : Fix) → left_of p fix ≤ p
left_below p Xfx = omega arith
left_below p Xfy = omega arith
left_below p Yfx = omega arith
left_below p Fy = omega arith
left_below p Fx = omega arith

pub right_below : (p : ℕ) (fix : Fix) → right_of p fix ≤ p
right_below p Xfx = omega arith
right_below p Xfy = omega arith
right_below p Yfx = omega arith
right_below p Fy = omega arith
right_below p Fx = omega arith

-- the infix operator in front, if there is one, has a greater priority
abbrev pub Beyond : Ops → ℕ → List Lexeme → Type 0
Beyond ops m ls = (op : Infix) → infix_at ops ls ≡ Some op → m < op.priority

pub beyond_more : (ops : Ops) (m n : ℕ) (ls : List Lexeme) → m ≤ n → Beyond ops n ls → Beyond ops m ls
beyond_more ops m n ls le h op e = let lt : n < op.priority = h op e in omega (arith, lt, le)

beyond_none : (ops : Ops) (m : ℕ) (ls : List Lexeme) → infix_at ops ls ≡ None → Beyond ops m ls
beyond_none ops m ls none op e = absurd (let no_one : ⊥ = cc in no_one)

pub beyond_end : (ops : Ops) (m : ℕ) → Beyond ops m (lexed false [])
beyond_end ops m = beyond_none ops m (lexed false []) refl

pub beyond_parenthesis : (ops : Ops) (m : ℕ) (ps : List Piece) → Beyond ops m (lexed false (sign 41 ∷ ps))
beyond_parenthesis ops m ps = beyond_none ops m (lexed false (sign 41 ∷ ps)) refl

pub beyond_bracket : (ops : Ops) (m : ℕ) (ps : List Piece) → Beyond ops m (lexed false (sign 93 ∷ ps))
beyond_bracket ops m ps = beyond_none ops m (lexed false (sign 93 ∷ ps)) refl

pub beyond_brace : (ops : Ops) (m : ℕ) (ps : List Piece) → Beyond ops m (lexed false (sign 125 ∷ ps))
beyond_brace ops m ps = beyond_none ops m (lexed false (sign 125 ∷ ps)) refl

pub beyond_bar : (ops : Ops) (m : ℕ) (ps : List Piece) → Beyond ops m (lexed false (sign 124 ∷ ps))
beyond_bar ops m ps = beyond_none ops m (lexed false (sign 124 ∷ ps)) refl

-- an infix operator in front is beyond whatever is below its priority
beyond_by : (called : List ℕ) (ls : List Lexeme) (o : Option (ℕ × Fix)) (m : ℕ) → ((op : ℕ × Fix) → o ≡ Some op → m < op.0) → (q : Infix) → infix_by called ls o ≡ Some q → m < q.priority
beyond_by called ls None m h q e = absurd (let none : ⊥ = cc in none)
beyond_by called ls (Some op) m h q e = subst (λ (x : Infix). m < x.priority) (same (infix_of called op ls) q e) (h op refl)
  where
    same : (a b : Infix) → Some a ≡ Some b → a ≡ b
    same a b g = cc

pub beyond_comma : (ops : Ops) (table : IsTable ops) (ps : List Piece) → Beyond ops 999 (lexed false (sign 44 ∷ ps))
beyond_comma ops table ps q e =
    beyond_by (codes ",") (lexed false ps) (look_up (ops.infixes) (codes ",")) 999 (λ op f. let k : op.0 ≡ 1000 = comma_found ops table op f in omega (arith, k)) q e

not_admitted_by : (ops : Ops) (max p : ℕ) (o : Option Infix) → ((op : Infix) → o ≡ Some op → max < op.priority) → admitted_by ops max p o ≡ None
not_admitted_by ops max p None h = refl
not_admitted_by ops max p (Some op) h = ap (λ b. cond (b && nat_le p (op.left)) (Some op) None) (lt-leb (op.priority) max (h op refl))

-- no infix operator goes on from a term where the one in front has a greater priority than is allowed
pub not_admitted : (ops : Ops) (max : ℕ) (x : Read) → Beyond ops max (x.rest) → admitted ops max x ≡ None
not_admitted ops max x h = not_admitted_by ops max (x.priority) (infix_at ops (x.rest)) h

-- one that is in front is taken where it and the term before it are admitted
pub is_admitted : (ops : Ops) (max : ℕ) (x : Read) (op : Infix) → infix_at ops (x.rest) ≡ Some op → op.priority ≤ max → x.priority ≤ op.left → admitted ops max x ≡ Some op
is_admitted ops max x op e low left =
    ap (λ o. admitted_by ops max (x.priority) o) e
    ∙ (ap (λ b. cond (b && nat_le (x.priority) (op.left)) (Some op) None) (le-leb (op.priority) max low)
    ∙ ap (λ b. cond b (Some op) None) (le-leb (x.priority) (op.left) left))
