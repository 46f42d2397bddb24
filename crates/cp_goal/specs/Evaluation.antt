-- The value of an expression (ISO/IEC 13211-1, 7.9 and 9.1): integers are their own values, and an operation has that of
-- its operands' values, which are taken from left to right.
use Rattle.std.specs.Prelude.{ℕ, List, [], ◌∷◌, slice_index_or, Option, Some, None, Result, Ok, Err, ℤ, codes}
use Rattle.cp_term.specs.declared.cell.Cell.{Cell}
use Rattle.cp_term.specs.declared.cell.Cell.TheVariants.{Var, Int, Atom, Func}
use Rattle.cp_term.specs.Substitution.{Substitution, apply}
use Rattle.cp_goal.specs.Folds.{of_terms}
use Rattle.cp_goal.specs.declared.fault.Fault.{Fault}
use Rattle.cp_goal.specs.declared.fault.Fault.TheVariants.{ZeroDivisor, IntOverflow, Shift}
use Rattle.cp_goal.specs.declared.unary.Unary.{Unary}
use Rattle.cp_goal.specs.declared.binary.Binary.{Binary}
use Rattle.cp_goal.specs.Errors.{instantiation_error, type_error, domain_error, evaluation_error, indicator}
use Rattle.cp_goal.specs.declared.why.Why.{Why}
use Rattle.cp_goal.specs.declared.why.Why.TheVariants.{Unbound, NotEvaluable, Faulty}
use Rattle.cp_goal.specs.Operations.{unary_named, unary_value, binary_named, binary_value}

abbrev pub Value : Type 0
Value = Result ℤ Why

abbrev pub or_faulty : Result ℤ Fault → Value
or_faulty (Ok z) = Ok z
or_faulty (Err f) = Err (Faulty f)

-- an operation on one value, and on two, of which the first that is none counts
abbrev pub applied : Unary → Value → Value
applied op (Err e) = Err e
applied op (Ok a) = or_faulty (unary_value op a)

abbrev pub applied_to_two : Binary → Value → Value → Value
applied_to_two op (Err e) y = Err e
applied_to_two op (Ok a) (Err e) = Err e
applied_to_two op (Ok a) (Ok b) = or_faulty (binary_value op a b)

abbrev pub unary_of : Option Unary → List ℕ → Value → Value
unary_of None name x = Err (NotEvaluable name 1)
unary_of (Some op) name x = applied op x

abbrev pub binary_of : Option Binary → List ℕ → Value → Value → Value
binary_of None name x y = Err (NotEvaluable name 2)
binary_of (Some op) name x y = applied_to_two op x y

-- what a term has, by its first cell and the values of its arguments
abbrev pub value_of : Cell → List Value → Value
value_of (Var v) values = Err Unbound
value_of (Int i) values = Ok i
value_of (Atom a) values = Err (NotEvaluable a 0)
value_of (Func f k) (x ∷ []) = unary_of (unary_named f) f x
value_of (Func f k) (x ∷ y ∷ []) = binary_of (binary_named f) f x y
value_of (Func f k) values = Err (NotEvaluable f k)

-- the value of the term that the cells are
abbrev pub value : List Cell → Value
value cells = slice_index_or (of_terms value_of cells) 0 (Err Unbound)

-- the value of an expression under a substitution
abbrev pub value_under : Substitution → List Cell → Value
value_under s expression = value (apply s expression)

-- ---- the kinds of errors

abbrev pub fault_kind : Fault → List Cell
fault_kind ZeroDivisor = evaluation_error (codes "zero_divisor")
fault_kind IntOverflow = evaluation_error (codes "int_overflow")
fault_kind (Shift n) = domain_error (codes "shift") (Int n ∷ [])

-- the kind of the error that an expression without a value raises
abbrev pub why_kind : Why → List Cell
why_kind Unbound = instantiation_error
why_kind (NotEvaluable name arity) = type_error (codes "evaluable") (indicator name arity)
why_kind (Faulty f) = fault_kind f
