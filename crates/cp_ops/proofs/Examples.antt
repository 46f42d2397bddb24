-- Worked examples, which the definitions compute.
use Rattle.std.proofs.Common.{◌≡◌, ℕ, List, [], ◌∷◌, refl}
use Rattle.std.specs.Prelude.{codes, Some, None, Err, pos, negsuc}
use Rattle.std.specs.Fmt.{digits}
use Prim.Native.String.{String}
use Rattle.cp_term.specs.declared.cell.Cell.{Cell}
use Rattle.cp_term.specs.declared.cell.Cell.TheVariants.{Var, Int, Atom, Func}
use Rattle.cp_ops.specs.declared.fix.Fix.TheVariants.{Xfx, Yfx, Fy}
use Rattle.cp_ops.specs.declared.table.OpError.TheVariants.{BadPriority, BadKind, Clash}
use Rattle.cp_ops.specs.Operators.{Ops, look_up, declare, with_operator}
use Rattle.cp_ops.specs.Declarations.{Declaration, after_all}
use Rattle.cp_ops.specs.Standard.{standard}
use Rattle.cp_ops.specs.Text.{quoting, bare, text_of}

too_high : declare standard (pos 1201) (codes "xfx") (codes "a") ≡ Err BadPriority
too_high = refl

no_kind : declare standard (pos 200) (codes "yf") (codes "a") ≡ Err BadKind
no_kind = refl

comma : declare standard (pos 200) (codes "xfx") (codes ",") ≡ Err Clash
comma = refl

first_priority : declare standard (negsuc 0) (codes "yf") (codes ",") ≡ Err BadPriority
first_priority = refl

minus_prefix : look_up (standard.prefixes) (codes "-") ≡ Some (200, Fy)
minus_prefix = refl

minus_infix : look_up (standard.infixes) (codes "-") ≡ Some (500, Yfx)
minus_infix = refl

abbrev declaration : ℕ → String → String → Declaration
declaration priority kind name = record { priority = pos priority; kind = codes kind; name = codes name }

abbrev foo_declared : Ops
foo_declared = after_all standard (declaration 300 "fy" "foo" ∷ declaration 700 "xfx" "foo" ∷ declaration 1201 "fx" "foo" ∷ [])

foo_prefix : look_up foo_declared.prefixes (codes "foo") ≡ Some (300, Fy)
foo_prefix = refl

foo_infix : look_up foo_declared.infixes (codes "foo") ≡ Some (700, Xfx)
foo_infix = refl

foo_removed : look_up (after_all foo_declared (declaration 0 "fx" "foo" ∷ [])).prefixes (codes "foo") ≡ None
foo_removed = refl

foo_kept : look_up (after_all foo_declared (declaration 0 "fx" "foo" ∷ [])).infixes (codes "foo") ≡ Some (700, Xfx)
foo_kept = refl

-- ---- text

abbrev at : String → Cell
at s = Atom (codes s)

abbrev fn : String → ℕ → Cell
fn s k = Func (codes s) k

abbrev int : ℕ → Cell
int n = Int (pos n)

abbrev Writes : List Cell → String → Type 0
Writes cells s = text_of quoting standard cells ≡ codes s

negated : Writes (fn "-" 1 ∷ int 1 ∷ []) "- 1"
unfolding digits
negated = refl

double_negation : Writes (fn "-" 2 ∷ int 1 ∷ Int (negsuc 0) ∷ []) "1- -1"
unfolding digits
double_negation = refl

meeting : Writes (fn "=" 2 ∷ at "a" ∷ fn "\\" 1 ∷ at "b" ∷ []) "a= \\ b"
meeting = refl

not_provable : Writes (fn "=" 2 ∷ at "a" ∷ fn "\\+" 1 ∷ at "b" ∷ []) "a=(\\+ b)"
not_provable = refl

minus_of_sum : Writes (fn "-" 1 ∷ fn "+" 2 ∷ at "a" ∷ at "b" ∷ []) "- (a+b)"
minus_of_sum = refl

power : Writes (fn "^" 2 ∷ fn "-" 1 ∷ int 1 ∷ int 2 ∷ []) "(- 1)^2"
unfolding digits
power = refl

rule : Writes (fn ":-" 2 ∷ at "a" ∷ fn "," 2 ∷ at "b" ∷ at "c" ∷ []) "a:-b,c"
rule = refl

assignment : Writes (fn "is" 2 ∷ Var 0 ∷ Var 1 ∷ []) "_0 is _1"
unfolding digits
assignment = refl

choice : Writes (fn ";" 2 ∷ at "a" ∷ at "b" ∷ []) "a ; b"
choice = refl

argument : Writes (fn "f" 1 ∷ fn ":-" 1 ∷ at "a" ∷ []) "f((:- a))"
argument = refl

operator_operand : Writes (fn ":" 2 ∷ at "m" ∷ fn "/" 2 ∷ at "is" ∷ int 2 ∷ []) "m:(is)/2"
unfolding digits
operator_operand = refl

operator_element : Writes (fn "." 2 ∷ at "-" ∷ at "[]" ∷ []) "[-]"
operator_element = refl

spaced : Writes (at "hello world" ∷ []) "'hello world'"
spaced = refl

partial_list : Writes (fn "." 2 ∷ at "a" ∷ fn "." 2 ∷ fn "," 2 ∷ at "b" ∷ at "c" ∷ Var 0 ∷ []) "[a,(b,c)|_0]"
unfolding digits
partial_list = refl

braces : Writes (fn "{}" 1 ∷ fn ":-" 2 ∷ at "a" ∷ at "-" ∷ []) "{a:-(-)}"
braces = refl

empty_list_functor : Writes (fn "[]" 1 ∷ at "a" ∷ []) "'[]'(a)"
empty_list_functor = refl

braces_functor : Writes (fn "{}" 2 ∷ at "a" ∷ at "b" ∷ []) "'{}'(a,b)"
braces_functor = refl

controls : Writes (Atom (10 ∷ 1 ∷ 39 ∷ 127 ∷ []) ∷ []) "'\\n\\x1\\\\'\\x7f\\'"
controls = refl

unquoted : text_of bare standard (fn "f" 1 ∷ at "it's" ∷ []) ≡ codes "f(it's)"
unquoted = refl

unquoted_operator : text_of bare standard (fn "-" 2 ∷ at "[]" ∷ fn "f x" 1 ∷ at "A" ∷ []) ≡ codes "[]-f x(A)"
unquoted_operator = refl

comma_operand : Writes (fn "=" 2 ∷ at "a" ∷ at "," ∷ []) "a=(',')"
comma_operand = refl

comma_argument : Writes (fn "f" 1 ∷ at "," ∷ []) "f(',')"
comma_argument = refl

empty_name : Writes (fn "-" 1 ∷ at "" ∷ []) "- ''"
empty_name = refl

open_list : Writes (fn "." 2 ∷ at "a" ∷ at "b" ∷ []) "[a|b]"
open_list = refl

least_integer : Writes (fn "-" 1 ∷ Int (negsuc 9223372036854775807) ∷ []) "- -9223372036854775808"
unfolding digits
least_integer = refl

left_of_minus : Writes (fn "-" 2 ∷ fn "-" 2 ∷ int 1 ∷ int 2 ∷ fn "-" 2 ∷ int 3 ∷ int 4 ∷ []) "1-2-(3-4)"
unfolding digits
left_of_minus = refl

-- ---- text under other tables

abbrev foo_100 : Ops
foo_100 = with_operator standard (record { name = codes "foo"; priority = 100; fix = Fy })

foo_of_minus_one : text_of quoting foo_100 (fn "foo" 1 ∷ Int (negsuc 0) ∷ []) ≡ codes "foo -1"
unfolding digits
foo_of_minus_one = refl

abbrev bar_500 : Ops
bar_500 = with_operator standard (record { name = codes "bar"; priority = 500; fix = Fy })

bar_on_the_left : text_of quoting bar_500 (fn "+" 2 ∷ fn "bar" 1 ∷ at "a" ∷ at "b" ∷ []) ≡ codes "(bar a)+b"
bar_on_the_left = refl

bar_of_sum : text_of quoting bar_500 (fn "bar" 1 ∷ fn "+" 2 ∷ at "a" ∷ at "b" ∷ []) ≡ codes "bar a+b"
bar_of_sum = refl

abbrev comment_700 : Ops
comment_700 = with_operator standard (record { name = codes "/*"; priority = 700; fix = Xfx })

quoted_operator : text_of quoting comment_700 (fn "/*" 2 ∷ int 0 ∷ int 1 ∷ []) ≡ codes "0 '/*' 1"
unfolding digits
quoted_operator = refl
