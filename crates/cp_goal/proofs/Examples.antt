-- The operations, expressions and builtin goals on worked examples.
use Rattle.std.proofs.Common.{◌≡◌, ◌-◌, ◌^◌, pos, negsuc, refl}
use Rattle.std.specs.Prelude.{Ok, Err, codes, Some, [], ◌∷◌}
use Rattle.cp_term.specs.declared.cell.Cell.TheVariants.{Var, Int, Atom, Func}
use Rattle.std.specs.Char.{encode_utf8}
use Rattle.std.specs.Str.{chars}
use Rattle.cp_goal.specs.Errors.{word, instantiation_error, evaluation_error, domain_error, resource_error, syntax_error}
use Rattle.cp_goal.specs.Evaluation.{value}
use Rattle.cp_goal.specs.declared.why.Why.TheVariants.{Unbound, NotEvaluable}
use Rattle.cp_goal.specs.Lists.{list_term}
use Rattle.cp_goal.specs.Names.{builtin_named}
use Rattle.cp_goal.specs.Builtins.{builtin, Succeeds, Fails, Raises, codes_term}
use Rattle.cp_goal.specs.declared.relation.Relation.TheVariants.{Less}
use Rattle.cp_goal.specs.declared.builtin.Builtin.TheVariants.{Unify, Compare, Functor, Argument, Univ, CopyTerm, AtomCodes, NumberCodes, AtomLength, Evaluate, InValue}
use Rattle.cp_goal.specs.Operations.{binary_value, unary_value}
use Rattle.cp_goal.specs.declared.fault.Fault.TheVariants.{ZeroDivisor, IntOverflow, Shift}
use Rattle.cp_goal.specs.declared.unary.Unary.TheVariants.{Minus, Complement}
use Rattle.cp_goal.specs.declared.binary.Binary.TheVariants.{Divide, Rem, Mod, ShiftLeft, ShiftRight}

quotients_go_towards_zero : binary_value Divide (pos 7) (negsuc 1) ≡ Ok (negsuc 2)
quotients_go_towards_zero = refl

remainders_have_the_sign_of_the_dividend : binary_value Rem (negsuc 6) (pos 2) ≡ Ok (negsuc 0)
remainders_have_the_sign_of_the_dividend = refl

moduli_have_the_sign_of_the_divisor : binary_value Mod (negsuc 6) (pos 2) ≡ Ok (pos 1)
moduli_have_the_sign_of_the_divisor = refl

nothing_is_divided_by_zero : binary_value Mod (pos 7) (pos 0) ≡ Err ZeroDivisor
nothing_is_divided_by_zero = refl

the_least_number_has_no_opposite : unary_value Minus (negsuc (2 ^ 63 - 1)) ≡ Err IntOverflow
the_least_number_has_no_opposite = refl

one_is_not_shifted_into_the_sign : binary_value ShiftLeft (pos 1) (pos 63) ≡ Err IntOverflow
one_is_not_shifted_into_the_sign = refl

minus_one_is_shifted_into_the_sign : binary_value ShiftLeft (negsuc 0) (pos 63) ≡ Ok (negsuc (2 ^ 63 - 1))
minus_one_is_shifted_into_the_sign = refl

shifts_go_towards_minus_infinity : binary_value ShiftRight (negsuc 0) (pos 63) ≡ Ok (negsuc 0)
shifts_go_towards_minus_infinity = refl

nothing_is_shifted_by_64 : binary_value ShiftLeft (pos 5) (pos 64) ≡ Err (Shift (pos 64))
nothing_is_shifted_by_64 = refl

the_complement_of_zero_is_minus_one : unary_value Complement (pos 0) ≡ Ok (negsuc 0)
the_complement_of_zero_is_minus_one = refl

-- ---- expressions

a_sum_of_a_product : value (Func (codes "+") 2 ∷ Int (pos 1) ∷ Func (codes "*") 2 ∷ Int (pos 2) ∷ Int (pos 3) ∷ []) ≡ Ok (pos 7)
a_sum_of_a_product = refl

the_left_operand_comes_first : value (Func (codes "+") 2 ∷ Var 0 ∷ Atom (codes "a") ∷ []) ≡ Err Unbound
the_left_operand_comes_first = refl

an_unknown_operation_has_no_operands : value (Func (codes "f") 1 ∷ Var 0 ∷ []) ≡ Err (NotEvaluable (codes "f") 1)
an_unknown_operation_has_no_operands = refl

-- ---- builtin goals

functor_has_at_most_255_arguments : builtin Functor ((Var 0 ∷ []) ∷ word (codes "f") ∷ (Int (pos 256) ∷ []) ∷ []) [] 1 ≡ Raises (resource_error (codes "arity"))
functor_has_at_most_255_arguments = refl

functor_makes_new_variables : builtin Functor ((Var 0 ∷ []) ∷ word (codes "f") ∷ (Int (pos 2) ∷ []) ∷ []) [] 1
    ≡ Succeeds (record { var = 0; term = Func (codes "f") 2 ∷ Var 1 ∷ Var 2 ∷ [] } ∷ []) 3
functor_makes_new_variables = refl

a_blank_is_no_digit : builtin NumberCodes ((Var 0 ∷ []) ∷ codes_term (codes "- 1") ∷ []) [] 1 ≡ Raises (syntax_error (codes "number"))
a_blank_is_no_digit = refl

digits_are_a_number : builtin NumberCodes ((Var 0 ∷ []) ∷ codes_term (codes "-12") ∷ []) [] 1 ≡ Succeeds (record { var = 0; term = Int (negsuc 11) ∷ [] } ∷ []) 1
digits_are_a_number = refl

no_variable_is_in_its_own_term : builtin Unify ((Var 0 ∷ []) ∷ (Func (codes "f") 1 ∷ Var 0 ∷ []) ∷ []) [] 1 ≡ Fails
no_variable_is_in_its_own_term = refl

variables_come_before_numbers : builtin Compare ((Var 0 ∷ []) ∷ (Var 1 ∷ []) ∷ (Int (pos 1) ∷ []) ∷ []) [] 2 ≡ Succeeds (record { var = 0; term = word (codes "<") } ∷ []) 2
variables_come_before_numbers = refl

a_list_makes_a_term : builtin Univ ((Var 0 ∷ []) ∷ list_term (word (codes "f") ∷ word (codes "a") ∷ []) ∷ []) [] 1
    ≡ Succeeds (record { var = 0; term = Func (codes "f") 1 ∷ Atom (codes "a") ∷ [] } ∷ []) 1
a_list_makes_a_term = refl

a_term_makes_a_list : builtin Univ ((Func (codes "f") 1 ∷ Atom (codes "a") ∷ []) ∷ (Var 0 ∷ []) ∷ []) [] 1
    ≡ Succeeds (record { var = 0; term = list_term (word (codes "f") ∷ word (codes "a") ∷ []) } ∷ []) 1
a_term_makes_a_list = refl

an_argument_is_counted_from_one : builtin Argument ((Int (pos 2) ∷ []) ∷ (Func (codes "f") 2 ∷ Atom (codes "a") ∷ Atom (codes "b") ∷ []) ∷ (Var 0 ∷ []) ∷ []) [] 1
    ≡ Succeeds (record { var = 0; term = Atom (codes "b") ∷ [] } ∷ []) 1
an_argument_is_counted_from_one = refl

an_open_list_is_no_text : builtin AtomCodes ((Var 0 ∷ []) ∷ (Func (codes ".") 2 ∷ Int (pos 97) ∷ Var 1 ∷ []) ∷ []) [] 2 ≡ Raises instantiation_error
an_open_list_is_no_text = refl

a_text_makes_an_atom : builtin AtomCodes ((Var 0 ∷ []) ∷ codes_term (codes "ab") ∷ []) [] 1 ≡ Succeeds (record { var = 0; term = word (codes "ab") } ∷ []) 1
unfolding encode_utf8
a_text_makes_an_atom = refl

a_copy_has_new_variables : builtin CopyTerm ((Func (codes "f") 2 ∷ Var 0 ∷ Var 0 ∷ []) ∷ (Var 1 ∷ []) ∷ []) [] 2
    ≡ Succeeds (record { var = 1; term = Func (codes "f") 2 ∷ Var 2 ∷ Var 2 ∷ [] } ∷ []) 3
a_copy_has_new_variables = refl

an_overflow_is_raised : builtin Evaluate ((Var 0 ∷ []) ∷ (Func (codes "+") 2 ∷ Int (pos (2 ^ 63 - 1)) ∷ Int (pos 1) ∷ []) ∷ []) [] 1
    ≡ Raises (evaluation_error (codes "int_overflow"))
an_overflow_is_raised = refl

the_lesser_number_is_less : builtin (InValue Less) ((Int (negsuc 0) ∷ []) ∷ (Int (pos 0) ∷ []) ∷ []) [] 0 ≡ Succeeds [] 0
the_lesser_number_is_less = refl

names_and_arities_name_goals : builtin_named (codes "=..") 2 ≡ Some Univ
names_and_arities_name_goals = refl

an_atom_has_characters : builtin AtomLength (word (codes "abc") ∷ (Var 0 ∷ []) ∷ []) [] 1 ≡ Succeeds (record { var = 0; term = Int (pos 3) ∷ [] } ∷ []) 1
unfolding chars
an_atom_has_characters = refl

a_wrong_answer_is_no_order : builtin Compare (word (codes "a") ∷ (Var 1 ∷ []) ∷ (Int (pos 1) ∷ []) ∷ []) [] 2 ≡ Raises (domain_error (codes "order") (word (codes "a")))
a_wrong_answer_is_no_order = refl
