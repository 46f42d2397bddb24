-- The builtin goals (ISO/IEC 13211-1, 8.2 to 8.5, 8.7 and 8.16): how each ends, by its arguments, the substitution and the
-- next free variable. A line `name of what is looked at` goes by cases on instances. Checks go from left to right.
use Rattle.std.specs.Prelude.{ℕ, zero, suc, ◌+◌, Bool, true, false, not, ◌||◌, nat_lt, if◌then◌else◌, List, [], ◌∷◌, ◌++◌, map, length, slice_get, Option, Some, None, is_some, Result, Ok, Err, ℤ, pos, negsuc, codes}
use Rattle.std.specs.List.{flat_map, list_all}
use Rattle.std.specs.Str.{bytes_eq, chars, encode_utf8_all}
use Rattle.std.specs.Fmt.{signed_decimal}
use Rattle.std.specs.Ordering.{int_cmp}
use Rattle.std.specs.declared.cmp.Ordering.{Ordering}
use Rattle.std.specs.declared.cmp.Ordering.TheVariants as ordering
use Rattle.cp_term.specs.declared.cell.Cell.{Cell}
use Rattle.cp_term.specs.declared.cell.Cell.TheVariants.{Var, Int, Atom, Func}
use Rattle.cp_term.specs.Preorder.{arguments}
use Rattle.cp_term.specs.Numbering.{fresh, canon, variables}
use Rattle.cp_term.specs.Substitution.{Substitution, apply}
use Rattle.cp_term.specs.Unification.{unify}
use Rattle.cp_term.specs.Order.{compare_under}
use Rattle.cp_goal.specs.declared.relation.Relation.{Relation}
use Rattle.cp_goal.specs.declared.relation.Relation.TheVariants.{Equal, NotEqual, Less, NotGreater, Greater, NotLess}
use Rattle.cp_goal.specs.declared.type_test.TypeTest.{TypeTest}
use Rattle.cp_goal.specs.declared.type_test.TypeTest.TheVariants as test
use Rattle.cp_goal.specs.declared.builtin.Builtin.{Builtin}
use Rattle.cp_goal.specs.declared.builtin.Builtin.TheVariants.{Is, Unify, NotUnify, InOrder, Compare, Functor, Argument, Univ, CopyTerm, AtomCodes, NumberCodes, AtomLength, Evaluate, InValue}
use Rattle.cp_goal.specs.Errors.{word, with_two, indicator, instantiation_error, type_error, domain_error, resource_error, syntax_error}
use Rattle.cp_goal.specs.Evaluation.{Value, value_under, why_kind}
use Rattle.cp_goal.specs.Lists.{list_term, code_term, Spine, Proper, Partial, Improper, spine, text_in, number_of}

-- how a goal ends: with this substitution and next free variable, not at all, or by an error of this kind
pub data End : Type 0 where
  Succeeds : Substitution → (next : ℕ) → End
  Fails : End
  Raises : (kind : List Cell) → End

-- ---- ways to end

-- where there is a substitution that unifies
abbrev pub by : Option Substitution → ℕ → End
by (Some s) next = Succeeds s next
by None next = Fails

abbrev pub where_true : Bool → Substitution → ℕ → End
where_true true s next = Succeeds s next
where_true false s next = Fails

-- ---- tests

abbrev pub is_variable : List Cell → Bool
is_variable (Var v ∷ cells) = true
is_variable cells = false

abbrev pub is_integer : List Cell → Bool
is_integer (Int i ∷ cells) = true
is_integer cells = false

abbrev pub is_atom : List Cell → Bool
is_atom (Atom a ∷ cells) = true
is_atom cells = false

abbrev pub is_compound : List Cell → Bool
is_compound (Func f k ∷ cells) = true
is_compound cells = false

abbrev pub is_bound_cell : Cell → Bool
is_bound_cell (Var v) = false
is_bound_cell (Int i) = true
is_bound_cell (Atom a) = true
is_bound_cell (Func f k) = true

abbrev pub passes : TypeTest → List Cell → Bool
passes test.Var t = is_variable t
passes test.Nonvar t = not (is_variable t)
passes test.Atom t = is_atom t
passes test.Integer t = is_integer t
passes test.Atomic t = is_atom t || is_integer t
passes test.Compound t = is_compound t
passes test.Callable t = is_atom t || is_compound t
passes test.Ground t = list_all is_bound_cell t

abbrev pub holds : Relation → Ordering → Bool
holds Equal ordering.Equal = true
holds NotEqual ordering.Less = true
holds NotEqual ordering.Greater = true
holds Less ordering.Less = true
holds NotGreater ordering.Less = true
holds NotGreater ordering.Equal = true
holds Greater ordering.Greater = true
holds NotLess ordering.Greater = true
holds NotLess ordering.Equal = true
holds r o = false

-- the values of two expressions, the left one first
abbrev pub related : Relation → Value → Value → Substitution → ℕ → End
related r (Err e) y s next = Raises (why_kind e)
related r (Ok a) (Err e) s next = Raises (why_kind e)
related r (Ok a) (Ok b) s next = where_true (holds r (int_cmp a b)) s next

-- `X is E`
abbrev pub evaluated : Value → List Cell → Substitution → ℕ → End
evaluated (Ok z) x s next = by (unify s x (Int z ∷ [])) next
evaluated (Err e) x s next = Raises (why_kind e)

-- ---- order

abbrev pub order_word : Ordering → List ℕ
order_word ordering.Less = codes "<"
order_word ordering.Equal = codes "="
order_word ordering.Greater = codes ">"

abbrev pub is_order : List ℕ → Bool
is_order a = bytes_eq a (codes "<") || bytes_eq a (codes "=") || bytes_eq a (codes ">")

-- `compare(O, A, B)` by the instance of O
abbrev pub compared : List Cell → Ordering → List Cell → Substitution → ℕ → End
compared (Var v ∷ cells) order o s next = by (unify s o (word (order_word order))) next
compared (Atom a ∷ cells) order o s next =
    if is_order a then by (unify s o (word (order_word order))) next else Raises (domain_error (codes "order") (word a))
compared t order o s next = Raises (type_error (codes "atom") t)

-- ---- terms and their parts

-- the variables with these numbers on
abbrev pub new_variables : ℕ → ℕ → List Cell
new_variables zero next = []
new_variables (suc k) next = Var next ∷ new_variables k (suc next)

-- the term with this name and number of new variables as arguments
abbrev pub made_term : List Cell → ℕ → ℕ → Result (List Cell) (List Cell)
made_term (Func f k ∷ cells) n next = Err (type_error (codes "atomic") (Func f k ∷ cells))
made_term name zero next = Ok name
made_term (Atom a ∷ cells) (suc n) next = Ok (Func a (suc n) ∷ new_variables (suc n) next)
made_term name (suc n) next = Err (type_error (codes "atom") name)

abbrev pub with_made : Result (List Cell) (List Cell) → List Cell → ℕ → Substitution → ℕ → End
with_made (Ok made) t n s next = by (unify s t made) (next + n)
with_made (Err kind) t n s next = Raises kind

-- `functor(T, N, A)` of an unbound T by the instances of N and A
abbrev pub made_functor : (name arity : List Cell) → List Cell → Substitution → ℕ → End
made_functor (Var v ∷ cells) arity t s next = Raises instantiation_error
made_functor name (Var v ∷ cells) t s next = Raises instantiation_error
made_functor name (Int (negsuc n) ∷ cells) t s next = Raises (domain_error (codes "not_less_than_zero") (Int (negsuc n) ∷ []))
made_functor name (Int (pos n) ∷ cells) t s next =
    if nat_lt 255 n then Raises (resource_error (codes "arity")) else with_made (made_term name n next) t n s next
made_functor name arity t s next = Raises (type_error (codes "integer") arity)

-- the same by the instance of T
abbrev pub functor_row : List Cell → (t name arity : List Cell) → Substitution → ℕ → End
functor_row (Func f k ∷ cells) t name arity s next = by (unify s (name ++ arity) (word f ++ Int (pos k) ∷ [])) next
functor_row (Int i ∷ cells) t name arity s next = by (unify s (name ++ arity) (Int i ∷ Int (pos 0) ∷ [])) next
functor_row (Atom a ∷ cells) t name arity s next = by (unify s (name ++ arity) (word a ++ Int (pos 0) ∷ [])) next
functor_row cells t name arity s next = made_functor (apply s name) (apply s arity) t s next

abbrev pub argument_if : Option (List Cell) → List Cell → Substitution → ℕ → End
argument_if (Some a) x s next = by (unify s x a) next
argument_if None x s next = Fails

abbrev pub argument_at : ℤ → List Cell → List Cell → Substitution → ℕ → End
argument_at (negsuc n) t x s next = Raises (domain_error (codes "not_less_than_zero") (Int (negsuc n) ∷ []))
argument_at (pos zero) t x s next = Fails
argument_at (pos (suc n)) t x s next = argument_if (slice_get (arguments t) n) x s next

abbrev pub argument_of : ℤ → List Cell → List Cell → Substitution → ℕ → End
argument_of i (Var v ∷ cells) x s next = Raises instantiation_error
argument_of i (Func f k ∷ cells) x s next = argument_at i (Func f k ∷ cells) x s next
argument_of i t x s next = Raises (type_error (codes "compound") t)

-- `arg(I, T, X)` by the instances of I and T
abbrev pub argument_row : (index t : List Cell) → List Cell → Substitution → ℕ → End
argument_row (Var v ∷ cells) t x s next = Raises instantiation_error
argument_row (Int i ∷ cells) t x s next = argument_of i t x s next
argument_row index t x s next = Raises (type_error (codes "integer") index)

-- the term of a list of its name and arguments
abbrev pub univ_term : (head : List Cell) → List (List Cell) → Result (List Cell) (List Cell)
univ_term (Var v ∷ cells) ts = Err instantiation_error
univ_term (Func f k ∷ cells) [] = Err (type_error (codes "atomic") (Func f k ∷ cells))
univ_term head [] = Ok head
univ_term (Atom a ∷ cells) ts =
    if nat_lt 255 (length ts) then Err (resource_error (codes "arity")) else Ok (Func a (length ts) ∷ flat_map (λ t. t) ts)
univ_term head ts = Err (type_error (codes "atom") head)

abbrev pub or_raises : Result (List Cell) (List Cell) → List Cell → Substitution → ℕ → End
or_raises (Ok made) t s next = by (unify s t made) next
or_raises (Err kind) t s next = Raises kind

-- `T =.. L` of an unbound T, by what the instance of L is as a list
abbrev pub univ_by : Spine → List Cell → List Cell → Substitution → ℕ → End
univ_by Partial list t s next = Raises instantiation_error
univ_by Improper list t s next = Raises (type_error (codes "list") list)
univ_by (Proper []) list t s next = Raises (domain_error (codes "non_empty_list") (word (codes "[]")))
univ_by (Proper (head ∷ ts)) list t s next = or_raises (univ_term head ts) t s next

-- the same by the instance of T
abbrev pub univ_row : List Cell → (t list : List Cell) → Substitution → ℕ → End
univ_row (Func f k ∷ cells) t list s next = by (unify s list (list_term (word f ∷ arguments (Func f k ∷ cells)))) next
univ_row (Int i ∷ cells) t list s next = by (unify s list (list_term ((Int i ∷ []) ∷ []))) next
univ_row (Atom a ∷ cells) t list s next = by (unify s list (list_term (word a ∷ []))) next
univ_row cells t list s next = univ_by (spine (apply s list)) (apply s list) t s next

-- the same term with new variables
abbrev pub copied : List Cell → List Cell → Substitution → ℕ → End
copied instance copy s next = by (unify s copy (fresh next (canon instance))) (next + length (variables instance))

-- ---- texts

abbrev pub codes_term : List ℕ → List Cell
codes_term text = list_term (map code_term text)

-- an atom has at most 1,024 bytes
abbrev pub atom_made : Result (List ℕ) (List Cell) → List Cell → Substitution → ℕ → End
atom_made (Err kind) a s next = Raises kind
atom_made (Ok text) a s next =
    if nat_lt 1024 (length (encode_utf8_all text)) then Raises (resource_error (codes "atom"))
    else by (unify s a (word (encode_utf8_all text))) next

-- `atom_codes(A, L)` by the instance of A
abbrev pub atom_codes_row : List Cell → (a list : List Cell) → Substitution → ℕ → End
atom_codes_row (Atom name ∷ cells) a list s next = by (unify s list (codes_term (chars name))) next
atom_codes_row (Int i ∷ cells) a list s next = by (unify s list (codes_term (signed_decimal i))) next
atom_codes_row (Func f k ∷ cells) a list s next = Raises (type_error (codes "atomic") (Func f k ∷ cells))
atom_codes_row cells a list s next = atom_made (text_in (apply s list)) a s next

-- `number_codes(N, L)` where L is no text, by the instance of N
abbrev pub number_text : List Cell → List Cell → Substitution → ℕ → End
number_text (Var v ∷ cells) list s next = Raises instantiation_error
number_text (Int i ∷ cells) list s next = by (unify s list (codes_term (signed_decimal i))) next
number_text n list s next = Raises (type_error (codes "integer") n)

abbrev pub number_made : Option ℤ → List Cell → Substitution → ℕ → End
number_made (Some z) n s next = by (unify s n (Int z ∷ [])) next
number_made None n s next = Raises (syntax_error (codes "number"))

-- the same by the text that the instance of L is
abbrev pub number_codes_row : Result (List ℕ) (List Cell) → (n list : List Cell) → Substitution → ℕ → End
number_codes_row (Ok text) n list s next = number_made (number_of text) n s next
number_codes_row (Err kind) n list s next = number_text (apply s n) list s next

-- `atom_length(A, N)` by the instance of A: the number of characters
abbrev pub atom_length_row : List Cell → List Cell → Substitution → ℕ → End
atom_length_row (Var v ∷ cells) n s next = Raises instantiation_error
atom_length_row (Atom name ∷ cells) n s next = by (unify s n (Int (pos (length (chars name))) ∷ [])) next
atom_length_row a n s next = Raises (type_error (codes "atom") a)

-- ---- goals

abbrev pub one_argument : Builtin → List Cell → Substitution → ℕ → End
one_argument (Is t) x s next = where_true (passes t (apply s x)) s next
one_argument goal x s next = Fails

abbrev pub two_arguments : Builtin → List Cell → List Cell → Substitution → ℕ → End
two_arguments Unify x y s next = by (unify s x y) next
two_arguments NotUnify x y s next = where_true (not (is_some (unify s x y))) s next
two_arguments (InOrder r) x y s next = where_true (holds r (compare_under s x y)) s next
two_arguments Univ x y s next = univ_row (apply s x) x y s next
two_arguments CopyTerm x y s next = copied (apply s x) y s next
two_arguments AtomCodes x y s next = atom_codes_row (apply s x) x y s next
two_arguments NumberCodes x y s next = number_codes_row (text_in (apply s y)) x y s next
two_arguments AtomLength x y s next = atom_length_row (apply s x) y s next
two_arguments Evaluate x y s next = evaluated (value_under s y) x s next
two_arguments (InValue r) x y s next = related r (value_under s x) (value_under s y) s next
two_arguments goal x y s next = Fails

abbrev pub three_arguments : Builtin → List Cell → List Cell → List Cell → Substitution → ℕ → End
three_arguments Compare x y z s next = compared (apply s x) (compare_under s y z) x s next
three_arguments Functor x y z s next = functor_row (apply s x) x y z s next
three_arguments Argument x y z s next = argument_row (apply s x) (apply s y) z s next
three_arguments goal x y z s next = Fails

-- How a goal ends, with its arguments. A goal of another number of arguments than the builtin has is none.
abbrev pub builtin : Builtin → List (List Cell) → Substitution → ℕ → End
builtin goal (x ∷ []) s next = one_argument goal x s next
builtin goal (x ∷ y ∷ []) s next = two_arguments goal x y s next
builtin goal (x ∷ y ∷ z ∷ []) s next = three_arguments goal x y z s next
builtin goal args s next = Fails

-- ---- error terms

-- the predicate that raises it: M:N/A
abbrev pub context : (module_name name : List ℕ) (arity : ℕ) → List Cell
context module_name name arity = with_two (codes ":") (word module_name) (indicator name arity)

abbrev pub error_term : (kind context : List Cell) → List Cell
error_term kind context = with_two (codes "error") kind context

-- The ball of an error. One of more than 4,096 cells is that the term is too large.
abbrev pub ball : (kind context : List Cell) → List Cell
ball kind context =
    if nat_lt 4096 (length (error_term kind context)) then error_term (resource_error (codes "term_size")) context
    else canon (error_term kind context)
