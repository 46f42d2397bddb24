-- Combinations of operators, and terms that are written and read back, which the definitions compute.
use Rattle.std.proofs.Common.{◌≡◌, ℕ, List, [], ◌∷◌, ◌++◌, map, refl}
use Rattle.std.specs.Prelude.{codes, pos, negsuc}
use Rattle.std.specs.Str.{chars, is_utf8}
use Rattle.std.specs.Str.Lossy.{utf8_valid_len}
use Rattle.std.specs.Char.{encode_utf8}
use Rattle.std.specs.Fmt.{digits}
use Prim.Native.String.{String}
use Rattle.cp_term.specs.declared.cell.Cell.{Cell}
use Rattle.cp_term.specs.declared.cell.Cell.TheVariants.{Var, Int, Atom, Func}
use Rattle.cp_ops.specs.declared.fix.Fix.{Fix}
use Rattle.cp_ops.specs.declared.fix.Fix.TheVariants.{Xfx, Xfy, Yfx, Fy, Fx}
use Rattle.cp_ops.specs.Operators.{Ops, OpRow}
use Rattle.cp_ops.specs.Declarations.{Declaration, after_all}
use Rattle.cp_ops.specs.Standard.{standard}
use Rattle.cp_ops.specs.Text.{quoting, text_of}
use Rattle.cp_read.specs.declared.bounds.Bounds.{Bounds}
use Rattle.cp_read.specs.declared.error.SyntaxWhy.{SyntaxWhy}
use Rattle.cp_read.specs.declared.error.SyntaxWhy.TheVariants.{Priority, UnexpectedToken}
use Rattle.cp_read.specs.ReadBack.{Found, fault, found, read_text}

abbrev bounds : Bounds
bounds = record { cells = 4096; name = 1024 }

-- the text has these cells as its only clause
abbrev whole : List Cell → Found
whole cells = found cells []

abbrev faulty : ℕ → SyntaxWhy → Found
faulty line why = fault (record { line = line; why = why })

abbrev at : String → Cell
at s = Atom (codes s)

abbrev fn : String → ℕ → Cell
fn s k = Func (codes s) k

abbrev int : ℕ → Cell
int n = Int (pos n)

-- a text, and what is read from it
abbrev Row : Type 0
Row = String × Found

abbrev AllRead : Ops → List Row → Type 0
AllRead ops rows = map (λ r. read_text bounds ops (codes r.0)) rows ≡ map (λ r. r.1) rows

abbrev declaration : ℕ → String → String → Declaration
declaration priority kind name = record { priority = pos priority; kind = codes kind; name = codes name }

abbrev declared_ones : Ops
declared_ones =
    after_all standard (declaration 1150 "fx" "dynamic" ∷ declaration 300 "fy" "w" ∷ declaration 500 "xfx" "w" ∷ declaration 300 "fx" "v" ∷ declaration 500 "xfx" "v" ∷ [])

-- three operators of a kind, of priority 400, 500 and 600
abbrev three : Fix → String → String → String → List OpRow
three fix a b c =
    record { name = codes a; priority = 400; fix = fix } ∷ record { name = codes b; priority = 500; fix = fix } ∷ record { name = codes c; priority = 600; fix = fix } ∷ []

abbrev kinds : Ops
kinds = record {
  prefixes = three Fy "p4" "p5" "p6" ++ three Fx "q4" "q5" "q6";
  infixes = three Xfx "x4" "x5" "x6" ++ three Xfy "r4" "r5" "r6" ++ three Yfx "l4" "l5" "l6";
}

-- the standard operators
abbrev combinations_rows : List Row
combinations_rows =
    ("- - a.", whole (fn "-" 1 ∷ fn "-" 1 ∷ at "a" ∷ [])) ∷
    ("- = x.", whole (fn "=" 2 ∷ at "-" ∷ at "x" ∷ [])) ∷
    ("f(- , a).", whole (fn "f" 2 ∷ at "-" ∷ at "a" ∷ [])) ∷
    ("[- | T].", whole (fn "." 2 ∷ at "-" ∷ Var 0 ∷ [])) ∷
    ("{- }.", whole (fn "{}" 1 ∷ at "-" ∷ [])) ∷
    ("(- ).", whole (at "-" ∷ [])) ∷
    ("- .", whole (at "-" ∷ [])) ∷
    ("- - .", whole (fn "-" 1 ∷ at "-" ∷ [])) ∷
    ("- (-).", whole (fn "-" 1 ∷ at "-" ∷ [])) ∷
    ("-(-).", whole (fn "-" 1 ∷ at "-" ∷ [])) ∷
    ("\\+ - a.", whole (fn "\\+" 1 ∷ fn "-" 1 ∷ at "a" ∷ [])) ∷
    ("- (1).", whole (fn "-" 1 ∷ int 1 ∷ [])) ∷
    ("-(1).", whole (fn "-" 1 ∷ int 1 ∷ [])) ∷
    ("- 1.", whole (fn "-" 1 ∷ int 1 ∷ [])) ∷
    ("-1.", whole (Int (negsuc 0) ∷ [])) ∷
    ("- -1.", whole (fn "-" 1 ∷ Int (negsuc 0) ∷ [])) ∷
    ("-(-1).", whole (fn "-" 1 ∷ Int (negsuc 0) ∷ [])) ∷
    ("a - (-1).", whole (fn "-" 2 ∷ at "a" ∷ Int (negsuc 0) ∷ [])) ∷
    ("a - -1.", whole (fn "-" 2 ∷ at "a" ∷ Int (negsuc 0) ∷ [])) ∷
    ("a - - 1.", whole (fn "-" 2 ∷ at "a" ∷ fn "-" 1 ∷ int 1 ∷ [])) ∷
    ("- a ^ 2.", whole (fn "-" 1 ∷ fn "^" 2 ∷ at "a" ∷ int 2 ∷ [])) ∷
    ("-1 ^ 2.", whole (fn "^" 2 ∷ Int (negsuc 0) ∷ int 2 ∷ [])) ∷
    ("- 1 ^ 2.", whole (fn "-" 1 ∷ fn "^" 2 ∷ int 1 ∷ int 2 ∷ [])) ∷
    ("- a = b.", whole (fn "=" 2 ∷ fn "-" 1 ∷ at "a" ∷ at "b" ∷ [])) ∷
    ("- - = x.", whole (fn "=" 2 ∷ fn "-" 1 ∷ at "-" ∷ at "x" ∷ [])) ∷
    ("- * 2.", whole (fn "*" 2 ∷ at "-" ∷ int 2 ∷ [])) ∷
    ("- {a}.", whole (fn "-" 1 ∷ fn "{}" 1 ∷ at "a" ∷ [])) ∷
    ("- [a].", whole (fn "-" 1 ∷ fn "." 2 ∷ at "a" ∷ at "[]" ∷ [])) ∷
    ("- \"\".", whole (fn "-" 1 ∷ at "[]" ∷ [])) ∷
    ("\\+ a = b.", whole (fn "\\+" 1 ∷ fn "=" 2 ∷ at "a" ∷ at "b" ∷ [])) ∷
    ("X = \\+ a = b.", whole (fn "=" 2 ∷ Var 0 ∷ fn "\\+" 1 ∷ fn "=" 2 ∷ at "a" ∷ at "b" ∷ [])) ∷
    ("\\+ (a, b).", whole (fn "\\+" 1 ∷ fn "," 2 ∷ at "a" ∷ at "b" ∷ [])) ∷
    ("\\+(a, b).", whole (fn "\\+" 2 ∷ at "a" ∷ at "b" ∷ [])) ∷
    ("\\+ a, b.", whole (fn "," 2 ∷ fn "\\+" 1 ∷ at "a" ∷ at "b" ∷ [])) ∷
    ("f(:- , a).", whole (fn "f" 2 ∷ at ":-" ∷ at "a" ∷ [])) ∷
    ("- :- a.", whole (fn ":-" 2 ∷ at "-" ∷ at "a" ∷ [])) ∷
    ("a = :- .", whole (fn "=" 2 ∷ at "a" ∷ at ":-" ∷ [])) ∷
    ("= .", whole (at "=" ∷ [])) ∷
    ("= = = .", whole (fn "=" 2 ∷ at "=" ∷ at "=" ∷ [])) ∷
    ("a = (:- b).", whole (fn "=" 2 ∷ at "a" ∷ fn ":-" 1 ∷ at "b" ∷ [])) ∷
    ("a : b : c.", whole (fn ":" 2 ∷ at "a" ∷ fn ":" 2 ∷ at "b" ∷ at "c" ∷ [])) ∷
    ("a, b :- c.", whole (fn ":-" 2 ∷ fn "," 2 ∷ at "a" ∷ at "b" ∷ at "c" ∷ [])) ∷
    ("f(- :- a).", faulty 1 Priority) ∷
    ("a :- b, c\n--> d.", faulty 2 Priority) ∷
    ("f(a, b :- c).", faulty 1 Priority) ∷
    ("[a :- b].", faulty 1 Priority) ∷
    (":- dynamic foo.", faulty 1 UnexpectedToken) ∷
    ("a - .", faulty 1 UnexpectedToken) ∷
    ("a :- .", faulty 1 UnexpectedToken) ∷
    ("f(a)(b).", faulty 1 UnexpectedToken) ∷
    ("- - ).", faulty 1 UnexpectedToken) ∷
    ("- , a.", whole (fn "," 2 ∷ at "-" ∷ at "a" ∷ [])) ∷
    []

combinations : AllRead standard combinations_rows
unfolding utf8_valid_len is_utf8 chars encode_utf8
combinations = refl

-- operators that were declared: `w` is prefix and infix, and so is `v`, whose operand has less than its priority
abbrev declared_rows : List Row
declared_rows =
    (":- dynamic foo.", whole (fn ":-" 1 ∷ fn "dynamic" 1 ∷ at "foo" ∷ [])) ∷
    (":- dynamic foo, bar/2.", whole (fn ":-" 1 ∷ fn "dynamic" 1 ∷ fn "," 2 ∷ at "foo" ∷ fn "/" 2 ∷ at "bar" ∷ int 2 ∷ [])) ∷
    (":- dynamic.", whole (fn ":-" 1 ∷ at "dynamic" ∷ [])) ∷
    ("f(dynamic a, b).", whole (fn "f" 2 ∷ fn "dynamic" 1 ∷ at "a" ∷ at "b" ∷ [])) ∷
    ("a = dynamic b, c.", whole (fn "," 2 ∷ fn "=" 2 ∷ at "a" ∷ fn "dynamic" 1 ∷ at "b" ∷ at "c" ∷ [])) ∷
    ("a = dynamic b + c.", whole (fn "=" 2 ∷ at "a" ∷ fn "dynamic" 1 ∷ fn "+" 2 ∷ at "b" ∷ at "c" ∷ [])) ∷
    ("dynamic dynamic a.", whole (fn "dynamic" 1 ∷ fn "dynamic" 1 ∷ at "a" ∷ [])) ∷
    ("w w w.", whole (fn "w" 1 ∷ fn "w" 1 ∷ at "w" ∷ [])) ∷
    ("a w b.", whole (fn "w" 2 ∷ at "a" ∷ at "b" ∷ [])) ∷
    ("a w w b.", whole (fn "w" 2 ∷ at "a" ∷ fn "w" 1 ∷ at "b" ∷ [])) ∷
    ("v v v.", whole (fn "v" 2 ∷ at "v" ∷ at "v" ∷ [])) ∷
    ("v a v v b.", whole (fn "v" 2 ∷ fn "v" 1 ∷ at "a" ∷ fn "v" 1 ∷ at "b" ∷ [])) ∷
    ("a v(b).", whole (fn "v" 2 ∷ at "a" ∷ at "b" ∷ [])) ∷
    ("v(a) v b.", whole (fn "v" 2 ∷ fn "v" 1 ∷ at "a" ∷ at "b" ∷ [])) ∷
    []

declared : AllRead declared_ones declared_rows
unfolding utf8_valid_len is_utf8 chars encode_utf8
declared = refl

-- each kind of infix operator of priority 500, and behind it each of 400, 500 and 600
abbrev infix_behind_infix_rows : List Row
infix_behind_infix_rows =
    ("a x5 b x4 c.", whole (fn "x5" 2 ∷ at "a" ∷ fn "x4" 2 ∷ at "b" ∷ at "c" ∷ [])) ∷
    ("a x5 b x5 c.", faulty 1 Priority) ∷
    ("a x5 b x6 c.", whole (fn "x6" 2 ∷ fn "x5" 2 ∷ at "a" ∷ at "b" ∷ at "c" ∷ [])) ∷
    ("a x5 b r4 c.", whole (fn "x5" 2 ∷ at "a" ∷ fn "r4" 2 ∷ at "b" ∷ at "c" ∷ [])) ∷
    ("a x5 b r5 c.", faulty 1 Priority) ∷
    ("a x5 b r6 c.", whole (fn "r6" 2 ∷ fn "x5" 2 ∷ at "a" ∷ at "b" ∷ at "c" ∷ [])) ∷
    ("a x5 b l4 c.", whole (fn "x5" 2 ∷ at "a" ∷ fn "l4" 2 ∷ at "b" ∷ at "c" ∷ [])) ∷
    ("a x5 b l5 c.", whole (fn "l5" 2 ∷ fn "x5" 2 ∷ at "a" ∷ at "b" ∷ at "c" ∷ [])) ∷
    ("a x5 b l6 c.", whole (fn "l6" 2 ∷ fn "x5" 2 ∷ at "a" ∷ at "b" ∷ at "c" ∷ [])) ∷
    ("a r5 b x4 c.", whole (fn "r5" 2 ∷ at "a" ∷ fn "x4" 2 ∷ at "b" ∷ at "c" ∷ [])) ∷
    ("a r5 b x5 c.", whole (fn "r5" 2 ∷ at "a" ∷ fn "x5" 2 ∷ at "b" ∷ at "c" ∷ [])) ∷
    ("a r5 b x6 c.", whole (fn "x6" 2 ∷ fn "r5" 2 ∷ at "a" ∷ at "b" ∷ at "c" ∷ [])) ∷
    ("a r5 b r4 c.", whole (fn "r5" 2 ∷ at "a" ∷ fn "r4" 2 ∷ at "b" ∷ at "c" ∷ [])) ∷
    ("a r5 b r5 c.", whole (fn "r5" 2 ∷ at "a" ∷ fn "r5" 2 ∷ at "b" ∷ at "c" ∷ [])) ∷
    ("a r5 b r6 c.", whole (fn "r6" 2 ∷ fn "r5" 2 ∷ at "a" ∷ at "b" ∷ at "c" ∷ [])) ∷
    ("a r5 b l4 c.", whole (fn "r5" 2 ∷ at "a" ∷ fn "l4" 2 ∷ at "b" ∷ at "c" ∷ [])) ∷
    ("a r5 b l5 c.", whole (fn "r5" 2 ∷ at "a" ∷ fn "l5" 2 ∷ at "b" ∷ at "c" ∷ [])) ∷
    ("a r5 b l6 c.", whole (fn "l6" 2 ∷ fn "r5" 2 ∷ at "a" ∷ at "b" ∷ at "c" ∷ [])) ∷
    ("a l5 b x4 c.", whole (fn "l5" 2 ∷ at "a" ∷ fn "x4" 2 ∷ at "b" ∷ at "c" ∷ [])) ∷
    ("a l5 b x5 c.", faulty 1 Priority) ∷
    ("a l5 b x6 c.", whole (fn "x6" 2 ∷ fn "l5" 2 ∷ at "a" ∷ at "b" ∷ at "c" ∷ [])) ∷
    ("a l5 b r4 c.", whole (fn "l5" 2 ∷ at "a" ∷ fn "r4" 2 ∷ at "b" ∷ at "c" ∷ [])) ∷
    ("a l5 b r5 c.", faulty 1 Priority) ∷
    ("a l5 b r6 c.", whole (fn "r6" 2 ∷ fn "l5" 2 ∷ at "a" ∷ at "b" ∷ at "c" ∷ [])) ∷
    ("a l5 b l4 c.", whole (fn "l5" 2 ∷ at "a" ∷ fn "l4" 2 ∷ at "b" ∷ at "c" ∷ [])) ∷
    ("a l5 b l5 c.", whole (fn "l5" 2 ∷ fn "l5" 2 ∷ at "a" ∷ at "b" ∷ at "c" ∷ [])) ∷
    ("a l5 b l6 c.", whole (fn "l6" 2 ∷ fn "l5" 2 ∷ at "a" ∷ at "b" ∷ at "c" ∷ [])) ∷
    []

infix_behind_infix : AllRead kinds infix_behind_infix_rows
unfolding utf8_valid_len is_utf8 chars encode_utf8
infix_behind_infix = refl

-- each kind of prefix operator of priority 500, and behind its operand each infix one of 400, 500 and 600
abbrev infix_behind_prefix_rows : List Row
infix_behind_prefix_rows =
    ("p5 a x4 b.", whole (fn "p5" 1 ∷ fn "x4" 2 ∷ at "a" ∷ at "b" ∷ [])) ∷
    ("p5 a x5 b.", whole (fn "p5" 1 ∷ fn "x5" 2 ∷ at "a" ∷ at "b" ∷ [])) ∷
    ("p5 a x6 b.", whole (fn "x6" 2 ∷ fn "p5" 1 ∷ at "a" ∷ at "b" ∷ [])) ∷
    ("p5 a r4 b.", whole (fn "p5" 1 ∷ fn "r4" 2 ∷ at "a" ∷ at "b" ∷ [])) ∷
    ("p5 a r5 b.", whole (fn "p5" 1 ∷ fn "r5" 2 ∷ at "a" ∷ at "b" ∷ [])) ∷
    ("p5 a r6 b.", whole (fn "r6" 2 ∷ fn "p5" 1 ∷ at "a" ∷ at "b" ∷ [])) ∷
    ("p5 a l4 b.", whole (fn "p5" 1 ∷ fn "l4" 2 ∷ at "a" ∷ at "b" ∷ [])) ∷
    ("p5 a l5 b.", whole (fn "p5" 1 ∷ fn "l5" 2 ∷ at "a" ∷ at "b" ∷ [])) ∷
    ("p5 a l6 b.", whole (fn "l6" 2 ∷ fn "p5" 1 ∷ at "a" ∷ at "b" ∷ [])) ∷
    ("q5 a x4 b.", whole (fn "q5" 1 ∷ fn "x4" 2 ∷ at "a" ∷ at "b" ∷ [])) ∷
    ("q5 a x5 b.", faulty 1 Priority) ∷
    ("q5 a x6 b.", whole (fn "x6" 2 ∷ fn "q5" 1 ∷ at "a" ∷ at "b" ∷ [])) ∷
    ("q5 a r4 b.", whole (fn "q5" 1 ∷ fn "r4" 2 ∷ at "a" ∷ at "b" ∷ [])) ∷
    ("q5 a r5 b.", faulty 1 Priority) ∷
    ("q5 a r6 b.", whole (fn "r6" 2 ∷ fn "q5" 1 ∷ at "a" ∷ at "b" ∷ [])) ∷
    ("q5 a l4 b.", whole (fn "q5" 1 ∷ fn "l4" 2 ∷ at "a" ∷ at "b" ∷ [])) ∷
    ("q5 a l5 b.", whole (fn "l5" 2 ∷ fn "q5" 1 ∷ at "a" ∷ at "b" ∷ [])) ∷
    ("q5 a l6 b.", whole (fn "l6" 2 ∷ fn "q5" 1 ∷ at "a" ∷ at "b" ∷ [])) ∷
    []

infix_behind_prefix : AllRead kinds infix_behind_prefix_rows
unfolding utf8_valid_len is_utf8 chars encode_utf8
infix_behind_prefix = refl

-- a prefix operator as a right operand, which is used with priority 999 where its own is above what is allowed
abbrev prefix_behind_infix_rows : List Row
prefix_behind_infix_rows =
    ("a x5 p4 b.", whole (fn "x5" 2 ∷ at "a" ∷ fn "p4" 1 ∷ at "b" ∷ [])) ∷
    ("a x5 p5 b.", whole (fn "x5" 2 ∷ at "a" ∷ fn "p5" 1 ∷ at "b" ∷ [])) ∷
    ("a x5 p6 b.", whole (fn "x5" 2 ∷ at "a" ∷ fn "p6" 1 ∷ at "b" ∷ [])) ∷
    ("a x5 q4 b.", whole (fn "x5" 2 ∷ at "a" ∷ fn "q4" 1 ∷ at "b" ∷ [])) ∷
    ("a x5 q5 b.", whole (fn "x5" 2 ∷ at "a" ∷ fn "q5" 1 ∷ at "b" ∷ [])) ∷
    ("a x5 q6 b.", whole (fn "x5" 2 ∷ at "a" ∷ fn "q6" 1 ∷ at "b" ∷ [])) ∷
    ("a r5 p4 b.", whole (fn "r5" 2 ∷ at "a" ∷ fn "p4" 1 ∷ at "b" ∷ [])) ∷
    ("a r5 p5 b.", whole (fn "r5" 2 ∷ at "a" ∷ fn "p5" 1 ∷ at "b" ∷ [])) ∷
    ("a r5 p6 b.", whole (fn "r5" 2 ∷ at "a" ∷ fn "p6" 1 ∷ at "b" ∷ [])) ∷
    ("a r5 q4 b.", whole (fn "r5" 2 ∷ at "a" ∷ fn "q4" 1 ∷ at "b" ∷ [])) ∷
    ("a r5 q5 b.", whole (fn "r5" 2 ∷ at "a" ∷ fn "q5" 1 ∷ at "b" ∷ [])) ∷
    ("a r5 q6 b.", whole (fn "r5" 2 ∷ at "a" ∷ fn "q6" 1 ∷ at "b" ∷ [])) ∷
    ("a l5 p4 b.", whole (fn "l5" 2 ∷ at "a" ∷ fn "p4" 1 ∷ at "b" ∷ [])) ∷
    ("a l5 p5 b.", whole (fn "l5" 2 ∷ at "a" ∷ fn "p5" 1 ∷ at "b" ∷ [])) ∷
    ("a l5 p6 b.", whole (fn "l5" 2 ∷ at "a" ∷ fn "p6" 1 ∷ at "b" ∷ [])) ∷
    ("a l5 q4 b.", whole (fn "l5" 2 ∷ at "a" ∷ fn "q4" 1 ∷ at "b" ∷ [])) ∷
    ("a l5 q5 b.", whole (fn "l5" 2 ∷ at "a" ∷ fn "q5" 1 ∷ at "b" ∷ [])) ∷
    ("a l5 q6 b.", whole (fn "l5" 2 ∷ at "a" ∷ fn "q6" 1 ∷ at "b" ∷ [])) ∷
    []

prefix_behind_infix : AllRead kinds prefix_behind_infix_rows
unfolding utf8_valid_len is_utf8 chars encode_utf8
prefix_behind_infix = refl

abbrev prefix_behind_prefix_rows : List Row
prefix_behind_prefix_rows =
    ("p5 p4 a.", whole (fn "p5" 1 ∷ fn "p4" 1 ∷ at "a" ∷ [])) ∷
    ("p5 p5 a.", whole (fn "p5" 1 ∷ fn "p5" 1 ∷ at "a" ∷ [])) ∷
    ("p5 p6 a.", whole (fn "p5" 1 ∷ fn "p6" 1 ∷ at "a" ∷ [])) ∷
    ("p5 q4 a.", whole (fn "p5" 1 ∷ fn "q4" 1 ∷ at "a" ∷ [])) ∷
    ("p5 q5 a.", whole (fn "p5" 1 ∷ fn "q5" 1 ∷ at "a" ∷ [])) ∷
    ("p5 q6 a.", whole (fn "p5" 1 ∷ fn "q6" 1 ∷ at "a" ∷ [])) ∷
    ("q5 p4 a.", whole (fn "q5" 1 ∷ fn "p4" 1 ∷ at "a" ∷ [])) ∷
    ("q5 p5 a.", whole (fn "q5" 1 ∷ fn "p5" 1 ∷ at "a" ∷ [])) ∷
    ("q5 p6 a.", whole (fn "q5" 1 ∷ fn "p6" 1 ∷ at "a" ∷ [])) ∷
    ("q5 q4 a.", whole (fn "q5" 1 ∷ fn "q4" 1 ∷ at "a" ∷ [])) ∷
    ("q5 q5 a.", whole (fn "q5" 1 ∷ fn "q5" 1 ∷ at "a" ∷ [])) ∷
    ("q5 q6 a.", whole (fn "q5" 1 ∷ fn "q6" 1 ∷ at "a" ∷ [])) ∷
    []

prefix_behind_prefix : AllRead kinds prefix_behind_prefix_rows
unfolding utf8_valid_len is_utf8 chars encode_utf8
prefix_behind_prefix = refl

-- what a prefix operator takes in that is used with priority 999, and one that is not
abbrev lowered_operand_rows : List Row
lowered_operand_rows =
    ("p5 p4 a l6 b.", whole (fn "l6" 2 ∷ fn "p5" 1 ∷ fn "p4" 1 ∷ at "a" ∷ at "b" ∷ [])) ∷
    ("p5 p5 a l6 b.", whole (fn "l6" 2 ∷ fn "p5" 1 ∷ fn "p5" 1 ∷ at "a" ∷ at "b" ∷ [])) ∷
    ("p5 p6 a l6 b.", whole (fn "p5" 1 ∷ fn "p6" 1 ∷ fn "l6" 2 ∷ at "a" ∷ at "b" ∷ [])) ∷
    ("p5 q4 a l6 b.", whole (fn "l6" 2 ∷ fn "p5" 1 ∷ fn "q4" 1 ∷ at "a" ∷ at "b" ∷ [])) ∷
    ("p5 q5 a l6 b.", whole (fn "l6" 2 ∷ fn "p5" 1 ∷ fn "q5" 1 ∷ at "a" ∷ at "b" ∷ [])) ∷
    ("p5 q6 a l6 b.", whole (fn "p5" 1 ∷ fn "q6" 1 ∷ fn "l6" 2 ∷ at "a" ∷ at "b" ∷ [])) ∷
    ("q5 p4 a l6 b.", whole (fn "l6" 2 ∷ fn "q5" 1 ∷ fn "p4" 1 ∷ at "a" ∷ at "b" ∷ [])) ∷
    ("q5 p5 a l6 b.", whole (fn "q5" 1 ∷ fn "p5" 1 ∷ fn "l6" 2 ∷ at "a" ∷ at "b" ∷ [])) ∷
    ("q5 p6 a l6 b.", whole (fn "q5" 1 ∷ fn "p6" 1 ∷ fn "l6" 2 ∷ at "a" ∷ at "b" ∷ [])) ∷
    ("q5 q4 a l6 b.", whole (fn "l6" 2 ∷ fn "q5" 1 ∷ fn "q4" 1 ∷ at "a" ∷ at "b" ∷ [])) ∷
    ("q5 q5 a l6 b.", whole (fn "q5" 1 ∷ fn "q5" 1 ∷ fn "l6" 2 ∷ at "a" ∷ at "b" ∷ [])) ∷
    ("q5 q6 a l6 b.", whole (fn "q5" 1 ∷ fn "q6" 1 ∷ fn "l6" 2 ∷ at "a" ∷ at "b" ∷ [])) ∷
    []

lowered_operand : AllRead kinds lowered_operand_rows
unfolding utf8_valid_len is_utf8 chars encode_utf8
lowered_operand = refl

-- ---- written and read back

abbrev more_operators : Ops
more_operators =
    after_all standard
    (declaration 100 "fy" "foo" ∷ declaration 500 "fy" "bar" ∷ declaration 1150 "fx" "dynamic" ∷ declaration 700 "xfx" "/*" ∷ declaration 850 "xfy" "unless" ∷ declaration 650 "yfx" "=>>" ∷ declaration 300 "fx" "$" ∷ [])

abbrev AllReadBack : Ops → List (List Cell) → Type 0
AllReadBack ops terms = map (λ cells. read_text bounds ops (text_of quoting ops cells ++ codes " .")) terms ≡ map whole terms

abbrev written_rows : List (List Cell)
written_rows =
    (fn "unless" 2 ∷ fn "f" 3 ∷ fn "hello world" 1 ∷ at "foo" ∷ fn "f" 3 ∷ Int (negsuc 7) ∷ at "\\" ∷ int 7 ∷ fn "unless" 2 ∷ Var 0 ∷ at "is" ∷ at "|" ∷ []) ∷
    (fn "\\+" 1 ∷ fn "=.." 2 ∷ fn "->" 2 ∷ at "is" ∷ at "is" ∷ Var 0 ∷ []) ∷
    (fn "unless" 2 ∷ fn "*" 2 ∷ fn "-" 3 ∷ Var 0 ∷ at "dynamic" ∷ Int (negsuc 9223372036854775807) ∷ fn "-" 1 ∷ Var 0 ∷ fn "#" 2 ∷ fn "f" 3 ∷ at "x." ∷ at "a_1" ∷ Int (negsuc 9223372036854775807) ∷ fn ":-" 1 ∷ at ":-" ∷ []) ∷
    (fn "unless" 2 ∷ int 7 ∷ fn ":-" 1 ∷ int 9223372036854775807 ∷ []) ∷
    (fn "=>>" 2 ∷ fn "check" 1 ∷ Var 0 ∷ fn "->" 2 ∷ at "|" ∷ at "{}" ∷ []) ∷
    (fn "/*" 2 ∷ at "-" ∷ fn "-" 1 ∷ at "is" ∷ []) ∷
    (fn ":-" 2 ∷ fn "+" 2 ∷ fn "," 2 ∷ at ":-" ∷ at "\n" ∷ fn "$" 1 ∷ int 9223372036854775807 ∷ fn "\\+" 1 ∷ fn "?-" 1 ∷ at "a_1" ∷ []) ∷
    (fn "is" 2 ∷ fn "+" 2 ∷ fn "[]" 1 ∷ Int (negsuc 7) ∷ fn "=>>" 2 ∷ Var 0 ∷ at "b" ∷ fn "+" 2 ∷ fn "<<" 2 ∷ at "." ∷ Var 0 ∷ fn "hello world" 1 ∷ at "[" ∷ []) ∷
    (fn "is" 2 ∷ fn "-" 3 ∷ fn "," 2 ∷ at "" ∷ Int (negsuc 7) ∷ int 9223372036854775807 ∷ fn "." 1 ∷ int 1 ∷ fn "{}" 1 ∷ fn "/\\" 2 ∷ at ":-" ∷ Var 0 ∷ []) ∷
    (fn "." 2 ∷ fn "<" 2 ∷ at ":-" ∷ Var 0 ∷ fn "dynamic" 1 ∷ fn "=" 2 ∷ fn "data" 1 ∷ Var 0 ∷ fn "!" 2 ∷ at "is" ∷ Var 1 ∷ []) ∷
    (fn "." 2 ∷ Var 0 ∷ fn "mod" 2 ∷ fn "." 1 ∷ at "/*" ∷ fn "|" 2 ∷ Var 1 ∷ at "|" ∷ []) ∷
    (fn "*" 2 ∷ fn "!" 2 ∷ Var 0 ∷ at "|" ∷ fn "unless" 2 ∷ at "it's" ∷ at "is" ∷ []) ∷
    (fn "\\" 1 ∷ fn ":" 2 ∷ fn ":-" 2 ∷ Var 0 ∷ int 0 ∷ fn "." 2 ∷ at ";" ∷ int 0 ∷ []) ∷
    (fn "=.." 2 ∷ fn "\\" 1 ∷ Var 0 ∷ fn "is" 1 ∷ Var 0 ∷ []) ∷
    (fn "bar" 1 ∷ fn "/*" 2 ∷ fn "hello world" 1 ∷ at "is" ∷ fn "," 2 ∷ Var 0 ∷ Int (negsuc 7) ∷ []) ∷
    (fn "[]" 1 ∷ fn ":-" 2 ∷ fn "hello world" 1 ∷ Int (negsuc 9223372036854775807) ∷ fn "," 2 ∷ fn "$" 1 ∷ Int (negsuc 7) ∷ fn "is" 2 ∷ Int (negsuc 9223372036854775807) ∷ int 0 ∷ []) ∷
    (fn "-->" 2 ∷ fn "is" 2 ∷ fn ":" 2 ∷ at "foo" ∷ Var 0 ∷ fn "=" 2 ∷ Int (negsuc 9223372036854775807) ∷ Atom (195 ∷ 169 ∷ []) ∷ fn "-" 2 ∷ fn "f" 1 ∷ Int (negsuc 7) ∷ fn "foo" 1 ∷ int 0 ∷ []) ∷
    (fn "-->" 2 ∷ fn "=>>" 2 ∷ at "-" ∷ at "a" ∷ fn "=" 2 ∷ int 7 ∷ at "is" ∷ []) ∷
    (fn "*" 2 ∷ fn ":" 2 ∷ at "-" ∷ int 7 ∷ fn "," 2 ∷ int 0 ∷ at "-" ∷ []) ∷
    (fn "//" 2 ∷ fn "," 2 ∷ fn "!" 2 ∷ at "hello world" ∷ Var 0 ∷ fn "-->" 2 ∷ at ":-" ∷ int 9223372036854775807 ∷ fn "." 2 ∷ fn "$" 1 ∷ Int (negsuc 7) ∷ fn "-" 1 ∷ Var 1 ∷ []) ∷
    (fn "f" 1 ∷ fn "|" 2 ∷ at "," ∷ Var 0 ∷ []) ∷
    (fn "!" 2 ∷ at "[" ∷ fn "->" 2 ∷ fn "f" 1 ∷ Int (negsuc 0) ∷ fn "f" 3 ∷ Var 0 ∷ at "/*" ∷ Int (negsuc 7) ∷ []) ∷
    (fn "dynamic" 1 ∷ fn "-->" 2 ∷ fn "|" 2 ∷ Var 0 ∷ at "dynamic" ∷ fn "?-" 1 ∷ int 1 ∷ []) ∷
    (fn "/*" 2 ∷ Int (negsuc 9223372036854775807) ∷ fn "\\" 1 ∷ fn "foo" 1 ∷ fn "<<" 2 ∷ at "-" ∷ int 7 ∷ []) ∷
    (fn "foo" 1 ∷ fn "-" 3 ∷ at "/*" ∷ fn "bar" 1 ∷ Var 0 ∷ fn "," 2 ∷ at "B" ∷ Var 1 ∷ []) ∷
    (fn "[]" 1 ∷ fn "-" 3 ∷ fn "+" 2 ∷ Int (negsuc 9223372036854775807) ∷ at "a" ∷ fn "," 3 ∷ int 1 ∷ int 7 ∷ at "B" ∷ fn "<" 2 ∷ at "*" ∷ at "hello world" ∷ []) ∷
    (fn "//" 2 ∷ fn "." 1 ∷ int 7 ∷ fn "-" 2 ∷ at "x." ∷ at "b" ∷ []) ∷
    (fn "=>>" 2 ∷ Var 0 ∷ fn ":-" 1 ∷ fn "=>>" 2 ∷ int 0 ∷ at ";" ∷ []) ∷
    (fn "check" 1 ∷ fn "dynamic" 1 ∷ fn "f" 1 ∷ int 1 ∷ []) ∷
    (fn "." 2 ∷ Var 0 ∷ fn "mod" 2 ∷ Int (negsuc 7) ∷ at "-" ∷ []) ∷
    (fn "f" 1 ∷ fn "-" 2 ∷ at "it's" ∷ fn "#" 2 ∷ Var 0 ∷ Var 1 ∷ []) ∷
    (fn "\\+" 1 ∷ fn "?-" 1 ∷ fn "?-" 1 ∷ at "is" ∷ []) ∷
    []

written : AllReadBack more_operators written_rows
unfolding utf8_valid_len is_utf8 chars encode_utf8 digits
written = refl
