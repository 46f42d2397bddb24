-- The definition's text of a term is what its first cell's shape says.
use Rattle.std.proofs.Common.{◌≡◌, ℕ, zero, suc, ◌≤◌, Bool, true, false, cond, ◌||◌, ◌&&◌, List, [], ◌∷◌, ◌++◌, length, take, drop, refl, sym, ◌∙◌, ap, subst, append_assoc, Some, None, arith}
use Rattle.std.specs.Prelude.{Option, codes, nat_lt, ◌==◌}
use Rattle.std.specs.Str.{bytes_eq}
use Rattle.std.proofs.lemmas.Bool.{ne_eqb}
use Rattle.cp_term.specs.declared.cell.Cell.{Cell}
use Rattle.cp_term.specs.declared.cell.Cell.TheVariants.{Var, Int, Atom, Func}
use Rattle.cp_term.specs.Preorder.{arity_of}
use Rattle.cp_ops.specs.declared.fix.Fix.{Fix}
use Rattle.cp_ops.specs.Operators.{Ops, look_up, left_of, is_operator}
use Rattle.cp_ops.specs.Text.{Style, Written, simply, Form, operator_atom, no_elements, elements, operation, simple, within, operand, left_operand, left_operand, ends_in_operand, between_commas, canonical, list_of, list_by, prefix_term, infix_term, compound, atom, before_terms, functor_text, name_text}
use Rattle.cp_write.specs.declared.shape.Shape.{Shape}
use Rattle.cp_write.specs.declared.shape.Shape.TheVariants.{Leaf, OperatorAtom, NoElements, Element, Braces, Canonical}
use Rattle.cp_write.specs.declared.place.Place.{Place}
use Rattle.cp_write.specs.declared.place.Place.TheVariants.{Nothing, Whole, Within, Operand, Left, Tail as TailPlace}
use Rattle.cp_write.specs.Writing.{prefix_shape, infix_shape, functor_shape, atom_shape, shape_of, priority_in, is_parenthesized_operand, would_take, first_term, tail_by, tail_text, placed, further, text_by, enclosed, tail_text_by, text_at}

-- what a term's text is, wherever it stands, by a shape
pub record IsShaped (style : Style) (c : Cell) (s : Shape) (ts : List Written) (t : Written) : Type 0 where
  pub whole : t.text ≡ text_by style c s ts
  pub within : (max : ℕ) → within max t ≡ enclosed (nat_lt max (priority_in s)) (text_by style c s ts)
  pub operand : (max : ℕ) → operand max t ≡ enclosed (is_parenthesized_operand s max) (text_by style c s ts)
  pub left : (p : ℕ) (fix : Fix) → left_operand p fix t ≡ enclosed (would_take s p || is_parenthesized_operand s (left_of p fix)) (text_by style c s ts)
  pub tail : tail_text t ≡ tail_text_by style c s ts

pub placed-IsShaped : (style : Style) (c : Cell) (s : Shape) (ts : List Written) (t : Written) (place : Place) → IsShaped style c s ts t → placed place t ≡ text_at style c s place ts
placed-IsShaped style c s ts t Nothing h = refl
placed-IsShaped style c s ts t Whole h = h.whole
placed-IsShaped style c s ts t TailPlace h = h.tail
placed-IsShaped style c s ts t (Within max) h = h.within max
placed-IsShaped style c s ts t (Operand max) h = h.operand max
placed-IsShaped style c s ts t (Left p fix) h = h.left p fix

-- ---- atoms

atom-IsShaped : (style : Style) (ops : Ops) (name : List ℕ) (ts : List Written) → IsShaped style (Atom name) (atom_shape ops name) ts (atom style ops name)
atom-IsShaped style ops name ts =
    elim (is_operator ops name) as (λ b. IsShaped style (Atom name) (cond b OperatorAtom (cond (bytes_eq name (codes "[]")) NoElements Leaf)) ts
    (record { text = name_text style name; priority = 0; form = cond b operator_atom (cond (bytes_eq name (codes "[]")) no_elements simple) })) [
      | true ↦ record { whole = refl; within = λ max. refl; operand = λ max. refl; left = λ p fix. refl; tail = refl }
      | false ↦ elim (bytes_eq name (codes "[]")) as (λ b. IsShaped style (Atom name) (cond b NoElements Leaf) ts (record { text = name_text style name; priority = 0; form = cond b no_elements simple })) [
        | true ↦ record { whole = refl; within = λ max. refl; operand = λ max. refl; left = λ p fix. refl; tail = refl }
        | false ↦ record { whole = refl; within = λ max. refl; operand = λ max. refl; left = λ p fix. refl; tail = refl }
      ]
    ]

-- ---- compounds

three : (h : List ℕ) (a : ℕ) (w : List ℕ) (e : ℕ) → (h ++ a ∷ []) ++ w ++ e ∷ [] ≡ h ++ (a ∷ (w ++ e ∷ []))
three h a w e = append_assoc (h ++ a ∷ []) w (e ∷ []) ∙ append_assoc h (a ∷ []) (w ++ e ∷ [])

arguments-between : (k : ℕ) (ts : List Written) → suc k ≤ length ts → between_commas (take (suc k) ts) ++ codes ")" ≡ within 999 (first_term ts) ++ further k (drop 1 ts)
arguments-between k [] h = absurd (omega arith)
arguments-between zero (t ∷ ts) h = refl
arguments-between (suc k) (t ∷ []) h = absurd (omega arith)
arguments-between (suc k) (t ∷ u ∷ ts) h =
    three (within 999 t) 44 (between_commas (take (suc k) (u ∷ ts))) 41
    ∙ ap (λ x. within 999 t ++ (44 ∷ x)) (arguments-between k (u ∷ ts) (omega arith))

canonical-IsShaped : (style : Style) (name : List ℕ) (k : ℕ) (ts : List Written) → k ≤ length ts → IsShaped style (Func name k) (Canonical k) ts (canonical style name (take k ts))
canonical-IsShaped style name zero ts h = record { whole = refl; within = λ max. refl; operand = λ max. refl; left = λ p fix. refl; tail = refl }
canonical-IsShaped style name (suc k) ts h =
    let text : List ℕ = functor_text style name ++ (40 ∷ (within 999 (first_term ts) ++ further k (drop 1 ts))) in
    let base : IsShaped style (Func name (suc k)) (Canonical (suc k)) ts (simply text) = record { whole = refl; within = λ max. refl; operand = λ max. refl; left = λ p fix. refl; tail = refl } in
    subst (λ x. IsShaped style (Func name (suc k)) (Canonical (suc k)) ts (simply (functor_text style name ++ (40 ∷ x)))) (sym (arguments-between k ts h)) base

-- the elements of a list of a first element and a tail
abbrev list_elements : Form → List ℕ → Written → List ℕ
list_elements no_elements h u = h
list_elements (elements es) h u = h ++ 44 ∷ [] ++ es
list_elements operator_atom h u = h ++ 124 ∷ [] ++ within 999 u
list_elements (operation fix) h u = h ++ 124 ∷ [] ++ within 999 u
list_elements simple h u = h ++ 124 ∷ [] ++ within 999 u

list_by-is : (f : Form) (h : List ℕ) (u : Written) → list_by f h u ≡ list_of (list_elements f h u)
list_by-is no_elements h u = refl
list_by-is (elements es) h u = refl
list_by-is operator_atom h u = refl
list_by-is (operation fix) h u = refl
list_by-is simple h u = refl

elements-tail : (f : Form) (h : List ℕ) (u : Written) → list_elements f h u ++ codes "]" ≡ h ++ tail_by f u
elements-tail no_elements h u = refl
elements-tail (elements es) h u = three h 44 es 93
elements-tail operator_atom h u = three h 124 (within 999 u) 93
elements-tail (operation fix) h u = three h 124 (within 999 u) 93
elements-tail simple h u = three h 124 (within 999 u) 93

element-IsShaped : (style : Style) (name : List ℕ) (t u : Written) (ts : List Written) → IsShaped style (Func name 2) Element (t ∷ u ∷ ts) (list_by u.form (within 999 t) u)
element-IsShaped style name t u ts =
    let e = elements-tail u.form (within 999 t) u in
    let own : IsShaped style (Func name 2) Element (t ∷ u ∷ ts) (list_of (list_elements u.form (within 999 t) u)) = record {
      whole = ap (λ x. codes "[" ++ x) e;
      within = λ max. ap (λ x. enclosed (nat_lt max 0) (codes "[" ++ x)) e;
      operand = λ max. ap (λ x. enclosed (nat_lt max 0) (codes "[" ++ x)) e;
      left = λ p fix. ap (λ x. enclosed (nat_lt (left_of p fix) 0) (codes "[" ++ x)) e;
      tail = ap (λ x. codes "," ++ x) e;
    } in
    subst (λ w. IsShaped style (Func name 2) Element (t ∷ u ∷ ts) w) (sym (list_by-is u.form (within 999 t) u)) own

either : {T : Type 0} (a b : Bool) (x y : T) → cond a x (cond b x y) ≡ cond (a || b) x y
either true b x y = refl
either false b x y = refl

prefix-IsShaped : (style : Style) (name : List ℕ) (o : Option (ℕ × Fix)) (t : Written) (ts : List Written) → IsShaped style (Func name 1) (prefix_shape o) (t ∷ ts) (prefix_term style name o t)
prefix-IsShaped style name None t ts = canonical-IsShaped style name 1 (t ∷ ts) (omega arith)
prefix-IsShaped style name (Some op) t ts = record {
  whole = refl;
  within = λ max. refl;
  operand = λ max. refl;
  left = λ p fix. either (ends_in_operand op.1 && op.0 == p) (nat_lt (left_of p fix) op.0) _ _;
  tail = refl;
}

infix-IsShaped : (style : Style) (name : List ℕ) (o : Option (ℕ × Fix)) (t u : Written) (ts : List Written) → IsShaped style (Func name 2) (infix_shape o) (t ∷ u ∷ ts) (infix_term style name o t u)
infix-IsShaped style name None t u ts = canonical-IsShaped style name 2 (t ∷ u ∷ ts) (omega arith)
infix-IsShaped style name (Some op) t u ts = record {
  whole = refl;
  within = λ max. refl;
  operand = λ max. refl;
  left = λ p fix. either (ends_in_operand op.1 && op.0 == p) (nat_lt (left_of p fix) op.0) _ _;
  tail = refl;
}

-- more than two arguments are always written in parentheses
many : (ops : Ops) (name : List ℕ) (k : ℕ) → 3 ≤ k → functor_shape ops name k ≡ Canonical k
many ops name k h =
    let one = ne_eqb k 1 (λ e. omega (arith, e)) in
    let two = ne_eqb k 2 (λ e. omega (arith, e)) in
    ap (λ b. cond b (cond (bytes_eq name (codes "{}")) Braces (prefix_shape (look_up ops.prefixes name))) (cond (k == 2) (cond (bytes_eq name (codes ".")) Element (infix_shape (look_up ops.infixes name))) (Canonical k))) one
    ∙ ap (λ b. cond b (cond (bytes_eq name (codes ".")) Element (infix_shape (look_up ops.infixes name))) (Canonical k)) two

compound-IsShaped : (style : Style) (ops : Ops) (name : List ℕ) (k : ℕ) (ts : List Written) → k ≤ length ts → IsShaped style (Func name k) (functor_shape ops name k) ts (compound style ops name (take k ts))
compound-IsShaped style ops name zero ts h = canonical-IsShaped style name zero ts h
compound-IsShaped style ops name (suc k) [] h = absurd (omega arith)
compound-IsShaped style ops name (suc zero) (t ∷ ts) h =
    elim (bytes_eq name (codes "{}")) as (λ b. IsShaped style (Func name 1) (cond b Braces (prefix_shape (look_up ops.prefixes name))) (t ∷ ts)
    (cond b (simply (codes "{" ++ within 1200 t ++ codes "}")) (prefix_term style name (look_up ops.prefixes name) t))) [
      | true ↦ record { whole = refl; within = λ max. refl; operand = λ max. refl; left = λ p fix. refl; tail = refl }
      | false ↦ prefix-IsShaped style name (look_up ops.prefixes name) t ts
    ]
compound-IsShaped style ops name (suc (suc k)) (t ∷ []) h = absurd (omega arith)
compound-IsShaped style ops name (suc (suc zero)) (t ∷ u ∷ ts) h =
    elim (bytes_eq name (codes ".")) as (λ b. IsShaped style (Func name 2) (cond b Element (infix_shape (look_up ops.infixes name))) (t ∷ u ∷ ts)
    (cond b (list_by u.form (within 999 t) u) (infix_term style name (look_up ops.infixes name) t u))) [
      | true ↦ element-IsShaped style name t u ts
      | false ↦ infix-IsShaped style name (look_up ops.infixes name) t u ts
    ]
compound-IsShaped style ops name (suc (suc (suc k))) (t ∷ u ∷ []) h = absurd (omega arith)
compound-IsShaped style ops name (suc (suc (suc k))) (t ∷ u ∷ v ∷ ts) h =
    subst (λ s. IsShaped style (Func name (suc (suc (suc k)))) s (t ∷ u ∷ v ∷ ts) (canonical style name (take (suc (suc (suc k))) (t ∷ u ∷ v ∷ ts))))
    (sym (many ops name (suc (suc (suc k))) (omega arith))) (canonical-IsShaped style name (suc (suc (suc k))) (t ∷ u ∷ v ∷ ts) h)

-- the first of the terms that a cell begins is as its shape says
pub cell-IsShaped : (style : Style) (ops : Ops) (c : Cell) (ts : List Written) → arity_of c ≤ length ts → IsShaped style c (shape_of ops c) ts (first_term (before_terms style ops c ts))
cell-IsShaped style ops (Var n) ts h = record { whole = refl; within = λ max. refl; operand = λ max. refl; left = λ p fix. refl; tail = refl }
cell-IsShaped style ops (Int i) ts h = record { whole = refl; within = λ max. refl; operand = λ max. refl; left = λ p fix. refl; tail = refl }
cell-IsShaped style ops (Atom name) ts h = atom-IsShaped style ops name ts
cell-IsShaped style ops (Func name k) ts h = compound-IsShaped style ops name k ts h

pub drop-before_terms : (style : Style) (ops : Ops) (c : Cell) (ts : List Written) → drop 1 (before_terms style ops c ts) ≡ drop (arity_of c) ts
drop-before_terms style ops (Var n) ts = refl
drop-before_terms style ops (Int i) ts = refl
drop-before_terms style ops (Atom name) ts = refl
drop-before_terms style ops (Func name k) ts = refl
