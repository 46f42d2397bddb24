-- The variables of a term's pieces are those of its cells, in order.
use Rattle.std.proofs.Common.{◌≡◌, ℕ, suc, Bool, true, false, cond, ◌||◌, ◌&&◌, List, [], ◌∷◌, ◌++◌, refl, sym, ◌∙◌, ap, append-nil}
use Rattle.std.specs.Prelude.{nat_lt, nat_eq, Some, ℤ, pos, negsuc, codes}
use Rattle.std.specs.Str.{bytes_eq}
use Rattle.cp_term.specs.declared.cell.Cell.{Cell}
use Rattle.cp_term.specs.declared.cell.Cell.TheVariants.{Var, Int, Atom, Func}
use Rattle.cp_term.specs.Numbering.{is_numbered_from}
use Rattle.cp_ops.specs.declared.fix.Fix.{Fix}
use Rattle.cp_ops.specs.Operators.{Ops, left_of, right_of}
use Rattle.cp_read.specs.Pieces.{Piece, variable, digits, word, quoted, sign, space, variables_of}
use Rattle.cp_read.proofs.lemmas.Spelling.{Each, none, one, Shape, operator_atom, empty_brackets, elements, operation, simple, Spelling, in_parentheses, within, operand_by, operand, would_take, left_operand, gap, gap_before, gap_behind, middle, between_commas, functor, cells_of, canonical, list_by, infix_term, atom_pieces, integer_pieces}
use Rattle.cp_read.proofs.lemmas.SpellingFold.{list_by-cells, IsShapedBy, IsShaped, Holds, shaped}

abbrev pub variables_in : List Cell → List Cell
variables_in [] = []
variables_in (Var v ∷ cells) = Var v ∷ variables_in cells
variables_in (Int i ∷ cells) = variables_in cells
variables_in (Atom a ∷ cells) = variables_in cells
variables_in (Func f k ∷ cells) = variables_in cells

pub variables_in-append : (a b : List Cell) → variables_in (a ++ b) ≡ variables_in a ++ variables_in b
variables_in-append [] b = refl
variables_in-append (Var v ∷ a) b = ap (λ x. Var v ∷ x) (variables_in-append a b)
variables_in-append (Int i ∷ a) b = variables_in-append a b
variables_in-append (Atom n ∷ a) b = variables_in-append a b
variables_in-append (Func f k ∷ a) b = variables_in-append a b

pub variables_of-append : (a b : List Piece) → variables_of (a ++ b) ≡ variables_of a ++ variables_of b
variables_of-append [] b = refl
variables_of-append (variable n ∷ a) b = ap (λ x. Var n ∷ x) (variables_of-append a b)
variables_of-append (digits n ∷ a) b = variables_of-append a b
variables_of-append (word n ∷ a) b = variables_of-append a b
variables_of-append (quoted n ∷ a) b = variables_of-append a b
variables_of-append (sign c ∷ a) b = variables_of-append a b
variables_of-append (space ∷ a) b = variables_of-append a b

-- numbered cells have numbered variables
pub numbered_variables : (n : ℕ) (cells : List Cell) → is_numbered_from n (variables_in cells) ≡ is_numbered_from n cells
numbered_variables n [] = refl
numbered_variables n (Var v ∷ cells) = λ i. cond (nat_lt v n) (numbered_variables n cells i) (nat_eq v n && numbered_variables (suc n) cells i)
numbered_variables n (Int i ∷ cells) = numbered_variables n cells
numbered_variables n (Atom a ∷ cells) = numbered_variables n cells
numbered_variables n (Func f k ∷ cells) = numbered_variables n cells

abbrev pub HasVariables : Spelling → Type 0
HasVariables t = variables_of (t.pieces) ≡ variables_in (t.cells)

-- ---- where a term stands makes no difference

enclosed-variables : (ps : List Piece) → variables_of (sign 40 ∷ ps ++ sign 41 ∷ []) ≡ variables_of ps
enclosed-variables ps = variables_of-append ps (sign 41 ∷ []) ∙ append-nil (variables_of ps)

within-variables : (max : ℕ) (t : Spelling) → variables_of ((within max t).pieces) ≡ variables_of (t.pieces)
within-variables max t = elim (nat_lt max (t.priority)) as (λ b. variables_of ((cond b (in_parentheses t) t).pieces) ≡ variables_of (t.pieces)) [ true ↦ enclosed-variables (t.pieces) | false ↦ refl ]

operand_by-variables : (s : Shape) (max : ℕ) (t : Spelling) → variables_of ((operand_by s max t).pieces) ≡ variables_of (t.pieces)
operand_by-variables operator_atom max t = enclosed-variables (t.pieces)
operand_by-variables empty_brackets max t = within-variables max t
operand_by-variables (elements es) max t = within-variables max t
operand_by-variables (operation fix) max t = within-variables max t
operand_by-variables simple max t = within-variables max t

left-variables : (p : ℕ) (fix : Fix) (t : Spelling) → variables_of ((left_operand p fix t).pieces) ≡ variables_of (t.pieces)
left-variables p fix t =
    elim (would_take (t.shape) (t.priority) p) as (λ b. variables_of ((cond b (in_parentheses t) (operand (left_of p fix) t)).pieces) ≡ variables_of (t.pieces)) [
      | true ↦ enclosed-variables (t.pieces)
      | false ↦ operand_by-variables (t.shape) (left_of p fix) t
    ]

word-variables : (s t : Bool) (name : List ℕ) → variables_of (gap s ++ (word name ∷ gap t)) ≡ []
word-variables true true name = refl
word-variables true false name = refl
word-variables false true name = refl
word-variables false false name = refl

middle-variables : (name : List ℕ) (left right : List Piece) → variables_of (middle name left right) ≡ []
middle-variables name left right =
    elim (bytes_eq name (codes ",")) as (λ b. variables_of (cond b (sign 44 ∷ []) (gap (gap_before name left) ++ (word name ∷ gap (gap_behind name right)))) ≡ []) [
      | true ↦ refl
      | false ↦ word-variables (gap_before name left) (gap_behind name right) name
    ]

-- ---- each form of term

functor-variables : (name : List ℕ) (ps : List Piece) → variables_of (functor name ∷ ps) ≡ variables_of ps
functor-variables name ps = elim (bytes_eq name (codes "[]") || bytes_eq name (codes "{}")) as (λ b. variables_of (cond b (quoted name) (word name) ∷ ps) ≡ variables_of ps) [ true ↦ refl | false ↦ refl ]

between-variables : (ts : List Spelling) → Each HasVariables ts → variables_of (between_commas ts) ≡ variables_in (cells_of ts)
between-variables _ none = refl
between-variables _ (one t _ h none) = within-variables 999 t ∙ h ∙ ap variables_in (sym (append-nil (t.cells)))
between-variables _ (one t _ h (one u ts g gs)) =
    variables_of-append ((within 999 t).pieces) (sign 44 ∷ between_commas (u ∷ ts))
    ∙ ((λ i. (within-variables 999 t ∙ h) i ++ between-variables (u ∷ ts) (one u ts g gs) i)
    ∙ sym (variables_in-append (t.cells) (cells_of (u ∷ ts))))

canonical-variables : (name : List ℕ) (ts : List Spelling) → Each HasVariables ts → HasVariables (canonical name ts)
canonical-variables name ts h = functor-variables name (sign 40 ∷ between_commas ts ++ sign 41 ∷ []) ∙ (enclosed-variables (between_commas ts) ∙ between-variables ts h)

two-variables : (left right : List Piece) (c : ℕ) (a b : List Cell) → variables_of left ≡ variables_in a → variables_of right ≡ variables_in b → variables_of (left ++ sign c ∷ right) ≡ variables_in (a ++ b)
two-variables left right c a b f g = variables_of-append left (sign c ∷ right) ∙ ((λ i. f i ++ g i) ∙ sym (variables_in-append a b))

in_brackets : (es : List Piece) → variables_of (sign 91 ∷ es ++ sign 93 ∷ []) ≡ variables_of es
in_brackets es = variables_of-append es (sign 93 ∷ []) ∙ append-nil (variables_of es)

-- the variables of a term, whose shape says what its pieces are
pub record KeepsVariables (t : Spelling) : Type 0 where
  pub same : HasVariables t
  pub shaped : IsShaped t

list_by-variables : (s : Shape) (t u : Spelling) → HasVariables t → HasVariables u → IsShapedBy u s → variables_of ((list_by (Func (codes ".") 2 ∷ t.cells ++ u.cells) s ((within 999 t).pieces) u).pieces) ≡ variables_in (t.cells ++ u.cells)
list_by-variables operator_atom t u h g k = in_brackets ((within 999 t).pieces ++ sign 124 ∷ (within 999 u).pieces) ∙ two-variables ((within 999 t).pieces) ((within 999 u).pieces) 124 (t.cells) (u.cells) (within-variables 999 t ∙ h) (within-variables 999 u ∙ g)
list_by-variables empty_brackets t u h g k =
    in_brackets ((within 999 t).pieces) ∙ (within-variables 999 t ∙ (h ∙ (sym (append-nil (variables_in (t.cells))) ∙ ((λ i. variables_in (t.cells) ++ variables_in (sym k i)) ∙ sym (variables_in-append (t.cells) (u.cells))))))
list_by-variables (elements es) t u h g k = in_brackets ((within 999 t).pieces ++ sign 44 ∷ es) ∙ two-variables ((within 999 t).pieces) es 44 (t.cells) (u.cells) (within-variables 999 t ∙ h) (sym (ap variables_of k ∙ in_brackets es) ∙ g)
list_by-variables (operation fix) t u h g k = in_brackets ((within 999 t).pieces ++ sign 124 ∷ (within 999 u).pieces) ∙ two-variables ((within 999 t).pieces) ((within 999 u).pieces) 124 (t.cells) (u.cells) (within-variables 999 t ∙ h) (within-variables 999 u ∙ g)
list_by-variables simple t u h g k = in_brackets ((within 999 t).pieces ++ sign 124 ∷ (within 999 u).pieces) ∙ two-variables ((within 999 t).pieces) ((within 999 u).pieces) 124 (t.cells) (u.cells) (within-variables 999 t ∙ h) (within-variables 999 u ∙ g)

infix-variables : (name : List ℕ) (op : ℕ × Fix) (t u : Spelling) → HasVariables t → HasVariables u → HasVariables (infix_term name (Some op) t u)
infix-variables name op t u h g =
    let left = left_operand (op.0) (op.1) t in
    let right = operand (right_of (op.0) (op.1)) u in
    let m = middle name (left.pieces) (right.pieces) in
    variables_of-append (left.pieces) (m ++ right.pieces)
    ∙ ((λ i. (left-variables (op.0) (op.1) t ∙ h) i ++ (variables_of-append m (right.pieces) ∙ (λ j. middle-variables name (left.pieces) (right.pieces) j ++ (operand_by-variables (u.shape) (right_of (op.0) (op.1)) u ∙ g) j)) i)
    ∙ sym (variables_in-append (t.cells) (u.cells)))

integer-variables : (i : ℤ) → variables_of (integer_pieces i) ≡ []
integer-variables (pos n) = refl
integer-variables (negsuc n) = refl

atom-variables : (a : List ℕ) → variables_of (atom_pieces a) ≡ []
atom-variables a =
    elim (bytes_eq a (codes "[]")) as (λ b. variables_of (cond b (sign 91 ∷ sign 93 ∷ []) (cond (bytes_eq a (codes "{}")) (sign 123 ∷ sign 125 ∷ []) (word a ∷ []))) ≡ []) [
      | true ↦ refl
      | false ↦ elim (bytes_eq a (codes "{}")) as (λ b. variables_of (cond b (sign 123 ∷ sign 125 ∷ []) (word a ∷ [])) ≡ []) [ true ↦ refl | false ↦ refl ]
    ]

each_same : (ts : List Spelling) → Each KeepsVariables ts → Each HasVariables ts
each_same _ none = none
each_same _ (one t ts h hs) = one t ts (h.same) (each_same ts hs)

pub keeps_variables : (ops : Ops) → Holds ops KeepsVariables
keeps_variables ops =
    let s = shaped ops in
    record {
      of_variable = λ v h. record { same = refl; shaped = s.of_variable v h };
      of_integer = λ i h. record { same = integer-variables i; shaped = s.of_integer i h };
      of_atom = λ a h. record { same = atom-variables a; shaped = s.of_atom a h };
      of_canonical = λ name ts h hs. record { same = canonical-variables name ts (each_same ts hs); shaped = tt };
      of_braces = λ t h. record { same = variables_of-append ((within 1200 t).pieces) (sign 125 ∷ []) ∙ (append-nil (variables_of ((within 1200 t).pieces)) ∙ (within-variables 1200 t ∙ h.same)); shaped = tt };
      of_prefix = λ name op t h e p. record { same = operand_by-variables (t.shape) (right_of (op.0) (op.1)) t ∙ p.same; shaped = tt };
      of_list = λ t u p q. record { same = list_by-variables (u.shape) t u (p.same) (q.same) (q.shaped) ∙ sym (ap variables_in (list_by-cells (Func (codes ".") 2 ∷ t.cells ++ u.cells) (u.shape) (within 999 t) u)); shaped = s.of_list t u (p.shaped) (q.shaped) };
      of_infix = λ name op t u h e p q. record { same = infix-variables name op t u (p.same) (q.same); shaped = tt };
    }
