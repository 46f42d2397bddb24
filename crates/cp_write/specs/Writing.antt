-- The text of a term from left to right: a cell shows how its term is written, and what is still to be written behind it
-- are frames. The text is built up by `beside`, token by token.
use Rattle.std.specs.Prelude.{◌≡◌, ◌≢◌, ◌≤◌, ◌<◌, length, ℕ, zero, suc, ◌+◌, Bool, true, false, ◌||◌, ◌&&◌, ◌==◌, nat_lt, if◌then◌else◌, List, [], ◌∷◌, ◌++◌, drop, slice_index_or, sum_by, Option, Some, None, codes, decimal}
use Rattle.std.specs.Fmt.{signed_decimal}
use Rattle.std.specs.Str.{bytes_eq}
use Rattle.cp_term.specs.declared.cell.Cell.{Cell}
use Rattle.cp_term.specs.declared.cell.Cell.TheVariants.{Var, Int, Atom, Func}
use Rattle.cp_ops.specs.declared.fix.Fix.{Fix}
use Rattle.cp_ops.specs.Operators.{Ops, look_up, left_of, right_of, is_operator}
use Rattle.cp_ops.specs.Text.{Style, quoting, bare, Written, simply, Form, operator_atom, no_elements, elements, operation, simple, parenthesized, within, operand, left_operand, ends_in_operand, beside, infix_text, is_tight, name_text, functor_text}
use Rattle.cp_write.specs.declared.style.Style.{Style as WrittenStyle}
use Rattle.cp_write.specs.declared.style.Style.TheVariants.{Quoting, Bare}
use Rattle.cp_write.specs.declared.shape.Shape.{Shape}
use Rattle.cp_write.specs.declared.shape.Shape.TheVariants.{Leaf, OperatorAtom, NoElements, Element, Braces, Prefix, Infix, Canonical}
use Rattle.cp_write.specs.declared.place.Place.{Place}
use Rattle.cp_write.specs.declared.place.Place.TheVariants.{Nothing, Whole, Within, Operand, Left, Tail as TailPlace}
use Rattle.cp_write.specs.declared.frame.Frame.{Frame}
use Rattle.cp_write.specs.declared.frame.Frame.TheVariants.{Close, Operator, Arguments, Tail}

abbrev pub style_of : WrittenStyle → Style
style_of Quoting = quoting
style_of Bare = bare

-- ---- how a cell's term is written

abbrev pub prefix_shape : Option (ℕ × Fix) → Shape
prefix_shape None = Canonical 1
prefix_shape (Some op) = Prefix op.0 op.1

abbrev pub infix_shape : Option (ℕ × Fix) → Shape
infix_shape None = Canonical 2
infix_shape (Some op) = Infix op.0 op.1

abbrev pub functor_shape : Ops → List ℕ → ℕ → Shape
functor_shape ops name k =
    if k == 1 then (if bytes_eq name (codes "{}") then Braces else prefix_shape (look_up ops.prefixes name))
    else if k == 2 then (if bytes_eq name (codes ".") then Element else infix_shape (look_up ops.infixes name))
    else Canonical k

abbrev pub atom_shape : Ops → List ℕ → Shape
atom_shape ops name = if is_operator ops name then OperatorAtom else if bytes_eq name (codes "[]") then NoElements else Leaf

abbrev pub shape_of : Ops → Cell → Shape
shape_of ops (Var n) = Leaf
shape_of ops (Int i) = Leaf
shape_of ops (Atom name) = atom_shape ops name
shape_of ops (Func name k) = functor_shape ops name k

abbrev pub priority_in : Shape → ℕ
priority_in (Prefix p fix) = p
priority_in (Infix p fix) = p
priority_in Leaf = 0
priority_in OperatorAtom = 0
priority_in NoElements = 0
priority_in Element = 0
priority_in Braces = 0
priority_in (Canonical k) = 0

-- ---- whether it is put in parentheses

abbrev pub is_parenthesized_operand : Shape → ℕ → Bool
is_parenthesized_operand OperatorAtom max = true
is_parenthesized_operand Leaf max = nat_lt max 0
is_parenthesized_operand NoElements max = nat_lt max 0
is_parenthesized_operand Element max = nat_lt max 0
is_parenthesized_operand Braces max = nat_lt max 0
is_parenthesized_operand (Canonical k) max = nat_lt max 0
is_parenthesized_operand (Prefix p fix) max = nat_lt max p
is_parenthesized_operand (Infix p fix) max = nat_lt max p

abbrev pub would_take : Shape → ℕ → Bool
would_take (Prefix own fix) p = ends_in_operand fix && own == p
would_take (Infix own fix) p = ends_in_operand fix && own == p
would_take Leaf p = false
would_take OperatorAtom p = false
would_take NoElements p = false
would_take Element p = false
would_take Braces p = false
would_take (Canonical k) p = false

abbrev pub is_parenthesized : Place → Shape → Bool
is_parenthesized Nothing s = false
is_parenthesized Whole s = false
is_parenthesized TailPlace s = false
is_parenthesized (Within max) s = nat_lt max (priority_in s)
is_parenthesized (Operand max) s = is_parenthesized_operand s max
is_parenthesized (Left p fix) s = would_take s p || is_parenthesized_operand s (left_of p fix)

-- ---- the text of a term at a place

-- the first of the terms that are to come
abbrev pub first_term : List Written → Written
first_term ts = slice_index_or ts 0 (simply [])

-- the tail of a list behind an element
abbrev pub tail_by : Form → Written → List ℕ
tail_by no_elements t = codes "]"
tail_by (elements es) t = codes "," ++ es ++ codes "]"
tail_by operator_atom t = codes "|" ++ within 999 t ++ codes "]"
tail_by (operation fix) t = codes "|" ++ within 999 t ++ codes "]"
tail_by simple t = codes "|" ++ within 999 t ++ codes "]"

abbrev pub tail_text : Written → List ℕ
tail_text t = tail_by t.form t

abbrev pub placed : Place → Written → List ℕ
placed Nothing t = []
placed Whole t = t.text
placed TailPlace t = tail_text t
placed (Within max) t = within max t
placed (Operand max) t = operand max t
placed (Left p fix) t = left_operand p fix t

-- so many more arguments, each behind a comma, and the closing parenthesis
abbrev pub further : ℕ → List Written → List ℕ
further zero ts = codes ")"
further (suc k) ts = codes "," ++ within 999 (first_term ts) ++ further k (drop 1 ts)

-- ---- what is still to be written

-- the text so far, and the terms that are to come
pub record Going : Type 0 where
  pub out : List ℕ
  pub terms : List Written

abbrev pub with_text : Going → List ℕ → ℕ → Going
with_text g text n = record { out = beside g.out text; terms = drop n g.terms }

-- the next term at a place
abbrev pub at_place : Place → Going → Going
at_place Nothing g = g
at_place Whole g = with_text g (placed Whole (first_term g.terms)) 1
at_place TailPlace g = with_text g (placed TailPlace (first_term g.terms)) 1
at_place (Within max) g = with_text g (placed (Within max) (first_term g.terms)) 1
at_place (Operand max) g = with_text g (placed (Operand max) (first_term g.terms)) 1
at_place (Left p fix) g = with_text g (placed (Left p fix) (first_term g.terms)) 1

-- an infix operator behind its left operand
abbrev pub operator_put : Style → List ℕ → List ℕ → List ℕ
operator_put style name out =
    if bytes_eq name (codes ",") then beside out (codes ",")
    else if is_tight style name then beside out name
    else beside (beside (beside out (codes " ")) (name_text style name)) (codes " ")

abbrev pub after : Style → Frame → Going → Going
after style (Close b) g = with_text g (b ∷ []) 0
after style (Operator name p fix) g = at_place (Operand (right_of p fix)) (record g { out = operator_put style name.now g.out })
after style (Arguments k) g = with_text g (further k g.terms) k
after style Tail g = at_place TailPlace g

-- the last of the frames is the innermost
abbrev pub resumed : Style → List Frame → Going → Going
resumed style [] g = g
resumed style (f ∷ fs) g = after style f (resumed style fs g)

-- the text so far with the next term at its place and what the frames say
abbrev pub finished : Style → List ℕ → List Frame → Place → List Written → Going
finished style out frames place ts = resumed style frames (at_place place (record { out = out; terms = ts }))

-- ---- how many terms are to come

abbrev pub awaited_at : Place → ℕ
awaited_at Nothing = 0
awaited_at Whole = 1
awaited_at TailPlace = 1
awaited_at (Within max) = 1
awaited_at (Operand max) = 1
awaited_at (Left p fix) = 1

abbrev pub awaited_by : Frame → ℕ
awaited_by (Close b) = 0
awaited_by (Operator name p fix) = 1
awaited_by (Arguments k) = k
awaited_by Tail = 1

abbrev pub awaited : List Frame → Place → ℕ
awaited frames place = sum_by awaited_by frames + awaited_at place

-- ---- the text that a cell begins, by its shape

abbrev pub leaf_text : Style → Cell → List ℕ
leaf_text style (Var n) = codes "_" ++ decimal n
leaf_text style (Int i) = signed_decimal i
leaf_text style (Atom name) = name_text style name
leaf_text style (Func name k) = []

abbrev pub name_of : Cell → List ℕ
name_of (Var n) = []
name_of (Int i) = []
name_of (Atom name) = name
name_of (Func name k) = name

abbrev pub arguments_text : ℕ → List Written → List ℕ
arguments_text zero ts = codes ")"
arguments_text (suc k) ts = within 999 (first_term ts) ++ further k (drop 1 ts)

abbrev pub text_by : Style → Cell → Shape → List Written → List ℕ
text_by style c Leaf ts = leaf_text style c
text_by style c OperatorAtom ts = leaf_text style c
text_by style c NoElements ts = leaf_text style c
text_by style c Element ts = codes "[" ++ within 999 (first_term ts) ++ tail_text (first_term (drop 1 ts))
text_by style c Braces ts = codes "{" ++ within 1200 (first_term ts) ++ codes "}"
text_by style c (Prefix p fix) ts = name_text style (name_of c) ++ 32 ∷ operand (right_of p fix) (first_term ts)
text_by style c (Infix p fix) ts = infix_text style (name_of c) (left_operand p fix (first_term ts)) (operand (right_of p fix) (first_term (drop 1 ts)))
text_by style c (Canonical k) ts = functor_text style (name_of c) ++ (codes "(" ++ arguments_text k ts)

-- how many terms stand in a term of this shape
abbrev pub arity_in : Shape → ℕ
arity_in Leaf = 0
arity_in OperatorAtom = 0
arity_in NoElements = 0
arity_in Element = 2
arity_in Braces = 1
arity_in (Prefix p fix) = 1
arity_in (Infix p fix) = 2
arity_in (Canonical k) = k

abbrev pub is_leaf : Shape → Bool
is_leaf Leaf = true
is_leaf OperatorAtom = true
is_leaf NoElements = true
is_leaf Element = false
is_leaf Braces = false
is_leaf (Prefix p fix) = false
is_leaf (Infix p fix) = false
is_leaf (Canonical k) = false

abbrev pub is_element : Shape → Bool
is_element Element = true
is_element Leaf = false
is_element OperatorAtom = false
is_element NoElements = false
is_element Braces = false
is_element (Prefix p fix) = false
is_element (Infix p fix) = false
is_element (Canonical k) = false

abbrev pub is_no_elements : Shape → Bool
is_no_elements NoElements = true
is_no_elements Leaf = false
is_no_elements OperatorAtom = false
is_no_elements Element = false
is_no_elements Braces = false
is_no_elements (Prefix p fix) = false
is_no_elements (Infix p fix) = false
is_no_elements (Canonical k) = false

-- the shape can be that of the cell
abbrev pub Fits : Shape → Cell → Type 0
Fits s (Var n) = is_leaf s ≡ true
Fits s (Int i) = is_leaf s ≡ true
Fits s (Atom name) = is_leaf s ≡ true
Fits s (Func name k) = (arity_in s ≡ k) × (0 < k)

abbrev pub enclosed : Bool → List ℕ → List ℕ
enclosed b text = if b then parenthesized text else text

-- the text of the term where it stands behind an element of a list
abbrev pub tail_text_by : Style → Cell → Shape → List Written → List ℕ
tail_text_by style c Element ts = codes "," ++ within 999 (first_term ts) ++ tail_text (first_term (drop 1 ts))
tail_text_by style c NoElements ts = codes "]"
tail_text_by style c Leaf ts = codes "|" ++ enclosed false (text_by style c Leaf ts) ++ codes "]"
tail_text_by style c OperatorAtom ts = codes "|" ++ enclosed false (text_by style c OperatorAtom ts) ++ codes "]"
tail_text_by style c Braces ts = codes "|" ++ enclosed false (text_by style c Braces ts) ++ codes "]"
tail_text_by style c (Canonical k) ts = codes "|" ++ enclosed false (text_by style c (Canonical k) ts) ++ codes "]"
tail_text_by style c (Prefix p fix) ts = codes "|" ++ enclosed (nat_lt 999 p) (text_by style c (Prefix p fix) ts) ++ codes "]"
tail_text_by style c (Infix p fix) ts = codes "|" ++ enclosed (nat_lt 999 p) (text_by style c (Infix p fix) ts) ++ codes "]"

abbrev pub text_at : Style → Cell → Shape → Place → List Written → List ℕ
text_at style c s Nothing ts = []
text_at style c s Whole ts = enclosed (is_parenthesized Whole s) (text_by style c s ts)
text_at style c s TailPlace ts = tail_text_by style c s ts
text_at style c s (Within max) ts = enclosed (is_parenthesized (Within max) s) (text_by style c s ts)
text_at style c s (Operand max) ts = enclosed (is_parenthesized (Operand max) s) (text_by style c s ts)
text_at style c s (Left p fix) ts = enclosed (is_parenthesized (Left p fix) s) (text_by style c s ts)

-- ---- steps of the writer

-- From a text and frames it went on by what is written of a term in which k terms stand: what is said of the terms to come
-- is the same, and so is their number.
pub record Continues (style : Style) (k : ℕ) (text : List Written → List ℕ) (out : List ℕ) (frames : List Frame)
    (new_out : List ℕ) (new_frames : List Frame) (new_place : Place) : Type 0 where
  pub same : (ts : List Written) → k ≤ length ts → resumed style frames (with_text (record { out = out; terms = ts }) (text ts) k) ≡ finished style new_out new_frames new_place ts
  pub count : awaited new_frames new_place ≡ sum_by awaited_by frames + k
  pub done : new_place ≡ Nothing → new_frames ≡ []

-- A frame led to the place of the next term.
pub record Reaches (style : Style) (f : Frame) (out : List ℕ) (frames : List Frame) (new_out : List ℕ) (new_frames : List Frame) (new_place : Place) : Type 0 where
  pub same : (ts : List Written) → resumed style frames (after style f (record { out = out; terms = ts })) ≡ finished style new_out new_frames new_place ts
  pub count : awaited new_frames new_place ≡ sum_by awaited_by frames + awaited_by f
  pub place : new_place ≢ Nothing

-- A frame was written, and the term that it ends has ended.
pub record Passes (style : Style) (f : Frame) (out : List ℕ) (frames : List Frame) (new_out : List ℕ) (new_frames : List Frame) : Type 0 where
  pub same : (ts : List Written) → ◌≡◌ {A = Going} (after style f (record { out = out; terms = ts })) (record { out = new_out; terms = ts })
  pub kept : new_frames ≡ frames
  pub count : awaited_by f ≡ 0
