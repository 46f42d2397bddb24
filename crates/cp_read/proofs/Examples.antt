-- Worked examples, which the definitions compute.
use Rattle.std.proofs.Common.{◌≡◌, ℕ, List, [], ◌∷◌, refl}
use Rattle.std.specs.Prelude.{codes, Err, pos, negsuc}
use Rattle.std.specs.Str.{chars, is_utf8}
use Rattle.std.specs.Str.Lossy.{utf8_valid_len}
use Rattle.std.specs.Char.{encode_utf8}
use Prim.Native.String.{String}
use Rattle.cp_term.specs.declared.cell.Cell.{Cell}
use Rattle.cp_term.specs.declared.cell.Cell.TheVariants.{Var, Int, Atom, Func}
use Rattle.cp_lex.specs.declared.error.LexWhy.TheVariants.{OpenQuote, Float}
use Rattle.cp_lex.specs.declared.token.TokenKind.TheVariants as kinds
use Rattle.cp_ops.specs.declared.fix.Fix.TheVariants.{Xfx, Fy}
use Rattle.cp_ops.specs.Operators.{Ops, with_operator}
use Rattle.cp_ops.specs.Standard.{standard}
use Rattle.cp_read.specs.declared.bounds.Bounds.{Bounds}
use Rattle.cp_read.specs.declared.error.SyntaxWhy.{SyntaxWhy}
use Rattle.cp_read.specs.declared.error.SyntaxWhy.TheVariants.{NoFullStop, Priority, UnexpectedToken, TooLarge}
use Rattle.cp_read.specs.Clauses.{clause_of}
use Rattle.cp_read.specs.ReadBack.{Found, no_tokens, fault, no_clause, found, read_text}

abbrev bounds : Bounds
bounds = record { cells = 4096; name = 1024 }

-- the text has these cells as its only clause
abbrev whole : List Cell → Found
whole cells = found cells []

abbrev faulty : ℕ → SyntaxWhy → Found
faulty line why = fault (record { line = line; why = why })

abbrev reads : String → Found
reads s = read_text bounds standard (codes s)

abbrev at : String → Cell
at s = Atom (codes s)

abbrev fn : String → ℕ → Cell
fn s k = Func (codes s) k

abbrev int : ℕ → Cell
int n = Int (pos n)

no_text : reads "  % none" ≡ no_clause
unfolding utf8_valid_len is_utf8 chars encode_utf8
no_text = refl

infix_minus : reads "a -1." ≡ whole (fn "-" 2 ∷ at "a" ∷ int 1 ∷ [])
unfolding utf8_valid_len is_utf8 chars encode_utf8
infix_minus = refl

minus_argument : reads "f(-)." ≡ whole (fn "f" 1 ∷ at "-" ∷ [])
unfolding utf8_valid_len is_utf8 chars encode_utf8
minus_argument = refl

text : reads "\"ab\"." ≡ whole (fn "." 2 ∷ int 97 ∷ fn "." 2 ∷ int 98 ∷ at "[]" ∷ [])
unfolding utf8_valid_len is_utf8 chars encode_utf8
text = refl

two_rules : reads "a :- b\n:- c." ≡ faulty 2 Priority
unfolding utf8_valid_len is_utf8 chars encode_utf8
two_rules = refl

clause_of_check : reads "check :- a." ≡ whole (fn ":-" 2 ∷ at "check" ∷ at "a" ∷ [])
unfolding utf8_valid_len is_utf8 chars encode_utf8
clause_of_check = refl

declaration_argument : reads "f(:- a)." ≡ whole (fn "f" 1 ∷ fn ":-" 1 ∷ at "a" ∷ [])
unfolding utf8_valid_len is_utf8 chars encode_utf8
declaration_argument = refl

variables : reads "p(X, _, Y, X, _)." ≡ whole (fn "p" 5 ∷ Var 0 ∷ Var 1 ∷ Var 2 ∷ Var 0 ∷ Var 3 ∷ [])
unfolding utf8_valid_len is_utf8 chars encode_utf8
variables = refl

list : reads "[a, B|T]." ≡ whole (fn "." 2 ∷ at "a" ∷ fn "." 2 ∷ Var 0 ∷ Var 1 ∷ [])
unfolding utf8_valid_len is_utf8 chars encode_utf8
list = refl

empty_ones : reads "{[ ], {}}." ≡ whole (fn "{}" 1 ∷ fn "," 2 ∷ at "[]" ∷ at "{}" ∷ [])
unfolding utf8_valid_len is_utf8 chars encode_utf8
empty_ones = refl

lowest : reads "-9223372036854775808." ≡ whole (Int (negsuc 9223372036854775807) ∷ [])
unfolding utf8_valid_len is_utf8 chars encode_utf8
lowest = refl

only_behind_a_sign : reads "a -9223372036854775808." ≡ faulty 1 UnexpectedToken
unfolding utf8_valid_len is_utf8 chars encode_utf8
only_behind_a_sign = refl

no_stop : reads "a :-\n b" ≡ faulty 2 NoFullStop
unfolding utf8_valid_len is_utf8 chars encode_utf8
no_stop = refl

stop_inside : reads "f(a\n." ≡ faulty 2 UnexpectedToken
unfolding utf8_valid_len is_utf8 chars encode_utf8
stop_inside = refl

tail_and_comma : reads "[a|b,c]." ≡ faulty 1 Priority
unfolding utf8_valid_len is_utf8 chars encode_utf8
tail_and_comma = refl

two_words : reads "a b." ≡ faulty 1 UnexpectedToken
unfolding utf8_valid_len is_utf8 chars encode_utf8
two_words = refl

float : reads "X is 1.5." ≡ no_tokens (record { line = 1; why = Float })
unfolding utf8_valid_len is_utf8 chars encode_utf8
float = refl

open_quote : reads "'a" ≡ no_tokens (record { line = 1; why = OpenQuote })
unfolding utf8_valid_len is_utf8 chars encode_utf8
open_quote = refl

left_of_xfx : reads "a = b = c." ≡ faulty 1 Priority
unfolding utf8_valid_len is_utf8 chars encode_utf8
left_of_xfx = refl

left_of_yfx : reads "a - b - c." ≡ whole (fn "-" 2 ∷ fn "-" 2 ∷ at "a" ∷ at "b" ∷ at "c" ∷ [])
unfolding utf8_valid_len is_utf8 chars encode_utf8
left_of_yfx = refl

right_of_xfy : reads "a ^ b ^ c." ≡ whole (fn "^" 2 ∷ at "a" ∷ fn "^" 2 ∷ at "b" ∷ at "c" ∷ [])
unfolding utf8_valid_len is_utf8 chars encode_utf8
right_of_xfy = refl

-- the second word is infix, and its priority as prefix is above what the first admits, which so is an atom
operand_of_fx : reads ":- :- a." ≡ whole (fn ":-" 2 ∷ at ":-" ∷ at "a" ∷ [])
unfolding utf8_valid_len is_utf8 chars encode_utf8
operand_of_fx = refl

-- the second word is not infix, and is used with priority 999
lowered_operand : reads "?- ?- a." ≡ whole (fn "?-" 1 ∷ fn "?-" 1 ∷ at "a" ∷ [])
unfolding utf8_valid_len is_utf8 chars encode_utf8
lowered_operand = refl

operand_of_fy : reads "\\+ \\+ a." ≡ whole (fn "\\+" 1 ∷ fn "\\+" 1 ∷ at "a" ∷ [])
unfolding utf8_valid_len is_utf8 chars encode_utf8
operand_of_fy = refl

bar_between : reads "(a | b)." ≡ faulty 1 UnexpectedToken
unfolding utf8_valid_len is_utf8 chars encode_utf8
bar_between = refl

quoted_sign : reads "'-'1." ≡ whole (fn "-" 1 ∷ int 1 ∷ [])
unfolding utf8_valid_len is_utf8 chars encode_utf8
quoted_sign = refl

call_behind_operator : reads "a = (b)." ≡ whole (fn "=" 2 ∷ at "a" ∷ at "b" ∷ [])
unfolding utf8_valid_len is_utf8 chars encode_utf8
call_behind_operator = refl

call_by_operator : reads "a =(b)." ≡ whole (fn "=" 2 ∷ at "a" ∷ at "b" ∷ [])
unfolding utf8_valid_len is_utf8 chars encode_utf8
call_by_operator = refl

too_many_cells : read_text (record { cells = 2; name = 1024 }) standard (codes "% none\nf(a,\nb).") ≡ faulty 2 TooLarge
unfolding utf8_valid_len is_utf8 chars encode_utf8
too_many_cells = refl

long_name : read_text (record { cells = 4096; name = 2 }) standard (codes "f(abc).") ≡ faulty 1 TooLarge
unfolding utf8_valid_len is_utf8 chars encode_utf8
long_name = refl

-- a token that no text has can't come next
no_text_has_it : clause_of bounds standard (record { kind = kinds.Word (255 ∷ []); from = 0; to = 1; line = 3 } ∷ []) ≡ Err (record { line = 3; why = UnexpectedToken })
unfolding utf8_valid_len is_utf8 chars encode_utf8
no_text_has_it = refl

-- ---- the examples of the writer, read back

sign_apart : reads "- 1 ." ≡ whole (fn "-" 1 ∷ int 1 ∷ [])
unfolding utf8_valid_len is_utf8 chars encode_utf8
sign_apart = refl

minus_minus : reads "1- -1 ." ≡ whole (fn "-" 2 ∷ int 1 ∷ Int (negsuc 0) ∷ [])
unfolding utf8_valid_len is_utf8 chars encode_utf8
minus_minus = refl

meeting : reads "a= \\ b ." ≡ whole (fn "=" 2 ∷ at "a" ∷ fn "\\" 1 ∷ at "b" ∷ [])
unfolding utf8_valid_len is_utf8 chars encode_utf8
meeting = refl

not_provable : reads "a=(\\+ b) ." ≡ whole (fn "=" 2 ∷ at "a" ∷ fn "\\+" 1 ∷ at "b" ∷ [])
unfolding utf8_valid_len is_utf8 chars encode_utf8
not_provable = refl

minus_of_sum : reads "- (a+b) ." ≡ whole (fn "-" 1 ∷ fn "+" 2 ∷ at "a" ∷ at "b" ∷ [])
unfolding utf8_valid_len is_utf8 chars encode_utf8
minus_of_sum = refl

power : reads "(- 1)^2 ." ≡ whole (fn "^" 2 ∷ fn "-" 1 ∷ int 1 ∷ int 2 ∷ [])
unfolding utf8_valid_len is_utf8 chars encode_utf8
power = refl

rule : reads "a:-b,c ." ≡ whole (fn ":-" 2 ∷ at "a" ∷ fn "," 2 ∷ at "b" ∷ at "c" ∷ [])
unfolding utf8_valid_len is_utf8 chars encode_utf8
rule = refl

assignment : reads "_0 is _1 ." ≡ whole (fn "is" 2 ∷ Var 0 ∷ Var 1 ∷ [])
unfolding utf8_valid_len is_utf8 chars encode_utf8
assignment = refl

choice : reads "a ; b ." ≡ whole (fn ";" 2 ∷ at "a" ∷ at "b" ∷ [])
unfolding utf8_valid_len is_utf8 chars encode_utf8
choice = refl

argument : reads "f((:- a)) ." ≡ whole (fn "f" 1 ∷ fn ":-" 1 ∷ at "a" ∷ [])
unfolding utf8_valid_len is_utf8 chars encode_utf8
argument = refl

operator_operand : reads "m:(is)/2 ." ≡ whole (fn ":" 2 ∷ at "m" ∷ fn "/" 2 ∷ at "is" ∷ int 2 ∷ [])
unfolding utf8_valid_len is_utf8 chars encode_utf8
operator_operand = refl

operator_element : reads "[-] ." ≡ whole (fn "." 2 ∷ at "-" ∷ at "[]" ∷ [])
unfolding utf8_valid_len is_utf8 chars encode_utf8
operator_element = refl

spaced : reads "'hello world' ." ≡ whole (at "hello world" ∷ [])
unfolding utf8_valid_len is_utf8 chars encode_utf8
spaced = refl

empty_list_functor : reads "'[]'(a) ." ≡ whole (fn "[]" 1 ∷ at "a" ∷ [])
unfolding utf8_valid_len is_utf8 chars encode_utf8
empty_list_functor = refl

braces_functor : reads "'{}'(a,b) ." ≡ whole (fn "{}" 2 ∷ at "a" ∷ at "b" ∷ [])
unfolding utf8_valid_len is_utf8 chars encode_utf8
braces_functor = refl

abbrev reads_under : Ops → String → Found
reads_under ops s = read_text bounds ops (codes s)

foo_of_minus_one : reads_under (with_operator standard (record { name = codes "foo"; priority = 100; fix = Fy })) "foo -1 ." ≡ whole (fn "foo" 1 ∷ Int (negsuc 0) ∷ [])
unfolding utf8_valid_len is_utf8 chars encode_utf8
foo_of_minus_one = refl

abbrev bar_500 : Ops
bar_500 = with_operator standard (record { name = codes "bar"; priority = 500; fix = Fy })

bar_on_the_left : reads_under bar_500 "(bar a)+b ." ≡ whole (fn "+" 2 ∷ fn "bar" 1 ∷ at "a" ∷ at "b" ∷ [])
unfolding utf8_valid_len is_utf8 chars encode_utf8
bar_on_the_left = refl

bar_of_sum : reads_under bar_500 "bar a+b ." ≡ whole (fn "bar" 1 ∷ fn "+" 2 ∷ at "a" ∷ at "b" ∷ [])
unfolding utf8_valid_len is_utf8 chars encode_utf8
bar_of_sum = refl

quoted_operator : reads_under (with_operator standard (record { name = codes "/*"; priority = 700; fix = Xfx })) "0 '/*' 1 ." ≡ whole (fn "/*" 2 ∷ int 0 ∷ int 1 ∷ [])
unfolding utf8_valid_len is_utf8 chars encode_utf8
quoted_operator = refl
