-- Rows: what the definitions say of declarations and clauses, each term as the reader gives it.
use Rattle.std.proofs.Common.{◌≡◌, ℕ, suc, Bool, true, false, List, [], ◌∷◌, refl}
use Rattle.std.specs.Prelude.{◌||◌, pos, codes}
use Rattle.cp_term.specs.declared.cell.Cell.{Cell}
use Rattle.cp_term.specs.declared.cell.Cell.TheVariants.{Var, Int, Atom, Func}
use Rattle.cp_code.specs.declared.kind.Kind.TheVariants as kind
use Rattle.cp_code.specs.declared.status.Status.{Status}
use Rattle.cp_code.specs.declared.status.Status.TheVariants as status
use Rattle.cp_code.specs.declared.kind.Kind.{Kind}
use Rattle.cp_code.specs.Bodies.{is}
use Rattle.cp_code.specs.Properties.{Prop, Of, ListOf, Both, Either, Always}
use Rattle.cp_assertion.specs.declared.assertion_error.AssertionError.TheVariants as refusal
use Rattle.cp_assertion.specs.declared.standing.Standing.{Standing}
use Rattle.cp_assertion.specs.declared.standing.Standing.TheVariants as standing
use Rattle.cp_assertion.specs.Formulas.{formula}
use Rattle.cp_assertion.specs.Assertions.{Outcome, Reads, Refused, drafted, assertion}
use Rattle.cp_assertion.specs.RegularTypes.{demands_of, uses, is_regular}

abbrev standing_of : List ℕ → ℕ → Standing
standing_of f (suc k) = standing.Defined
standing_of f k = standing.Shared

abbrev is_type : List ℕ → Bool
is_type name = is name "t"

abbrev read : List Cell → Outcome
read cells = assertion standing_of is_type cells

abbrev reads : Status → Kind → ℕ → Prop → Prop → Outcome
reads s k n p q = Reads (record { status = s; kind = k; name = codes "p"; arity = n; before = p; after = q })

abbrev head : List Cell
head = Func (codes "p") 1 ∷ Var 0 ∷ []

-- `pred p(X)`
head_alone : read (Func (codes "pred") 1 ∷ Func (codes "p") 1 ∷ Var 0 ∷ []) ≡ reads status.Check kind.Pred 1 Always Always
unfolding drafted formula
head_alone = refl

-- `pred p(X) : int(X)`
before_alone : read (Func (codes "pred") 1 ∷ Func (codes ":") 2 ∷ Func (codes "p") 1 ∷ Var 0 ∷ Func (codes "int") 1 ∷ Var 0 ∷ []) ≡ reads status.Check kind.Pred 1 (Of (codes "int") 0) Always
unfolding drafted formula
before_alone = refl

-- `success p(X) => int(X)`
after_alone : read (Func (codes "success") 1 ∷ Func (codes "=>") 2 ∷ Func (codes "p") 1 ∷ Var 0 ∷ Func (codes "int") 1 ∷ Var 0 ∷ []) ≡ reads status.Check kind.Success 1 Always (Of (codes "int") 0)
unfolding drafted formula
after_alone = refl

-- `pred p(X) : int(X) => atm(X)`
before_and_after : read (Func (codes "pred") 1 ∷ Func (codes "=>") 2 ∷ Func (codes ":") 2 ∷ Func (codes "p") 1 ∷ Var 0 ∷ Func (codes "int") 1 ∷ Var 0 ∷ Func (codes "atm") 1 ∷ Var 0 ∷ []) ≡ reads status.Check kind.Pred 1 (Of (codes "int") 0) (Of (codes "atm") 0)
unfolding drafted formula
before_and_after = refl

-- `trust calls p(X) : int(X) => atm(X) # text`
with_text : read (Func (codes "trust") 1 ∷ Func (codes "calls") 1 ∷ Func (codes "#") 2 ∷ Func (codes "=>") 2 ∷ Func (codes ":") 2 ∷ Func (codes "p") 1 ∷ Var 0 ∷ Func (codes "int") 1 ∷ Var 0 ∷ Func (codes "atm") 1 ∷ Var 0 ∷ Atom (codes "text") ∷ []) ≡ reads status.Trust kind.Calls 1 (Of (codes "int") 0) (Of (codes "atm") 0)
unfolding drafted formula
with_text = refl

-- `true comp p(X) + det : int(X) + det => atm(X) + det # text`
with_computation : read (Func (codes "true") 1 ∷ Func (codes "comp") 1 ∷ Func (codes "#") 2 ∷ Func (codes "=>") 2 ∷ Func (codes ":") 2 ∷ Func (codes "+") 2 ∷ Func (codes "p") 1 ∷ Var 0 ∷ Atom (codes "det") ∷ Func (codes "+") 2 ∷ Func (codes "int") 1 ∷ Var 0 ∷ Atom (codes "det") ∷ Func (codes "+") 2 ∷ Func (codes "atm") 1 ∷ Var 0 ∷ Atom (codes "det") ∷ Atom (codes "text") ∷ []) ≡ reads status.Believed kind.Comp 1 (Of (codes "int") 0) (Of (codes "atm") 0)
unfolding drafted formula
with_computation = refl

-- `pred p(X) : int(X) + a + b`, of which one is taken
two_computations : read (Func (codes "pred") 1 ∷ Func (codes ":") 2 ∷ Func (codes "p") 1 ∷ Var 0 ∷ Func (codes "+") 2 ∷ Func (codes "+") 2 ∷ Func (codes "int") 1 ∷ Var 0 ∷ Atom (codes "a") ∷ Atom (codes "b") ∷ []) ≡ Refused refusal.BadProperty
unfolding drafted formula
two_computations = refl

-- `pred p(X, Y) : int * list`
by_position : read (Func (codes "pred") 1 ∷ Func (codes ":") 2 ∷ Func (codes "p") 2 ∷ Var 0 ∷ Var 1 ∷ Func (codes "*") 2 ∷ Atom (codes "int") ∷ Atom (codes "list") ∷ []) ≡ reads status.Check kind.Pred 2 (Both (Of (codes "int") 0) (Of (codes "list") 1)) Always
unfolding drafted formula
by_position = refl

-- `pred p(X) : t`
by_position_of_one : read (Func (codes "pred") 1 ∷ Func (codes ":") 2 ∷ Func (codes "p") 1 ∷ Var 0 ∷ Atom (codes "t") ∷ []) ≡ reads status.Check kind.Pred 1 (Of (codes "t") 0) Always
unfolding drafted formula
by_position_of_one = refl

-- `pred p(X, Y) : int`
by_position_too_few : read (Func (codes "pred") 1 ∷ Func (codes ":") 2 ∷ Func (codes "p") 2 ∷ Var 0 ∷ Var 1 ∷ Atom (codes "int") ∷ []) ≡ Refused refusal.BadProperty
unfolding drafted formula
by_position_too_few = refl

-- `pred p(X, Y) : int * int * int`
by_position_too_many : read (Func (codes "pred") 1 ∷ Func (codes ":") 2 ∷ Func (codes "p") 2 ∷ Var 0 ∷ Var 1 ∷ Func (codes "*") 2 ∷ Func (codes "*") 2 ∷ Atom (codes "int") ∷ Atom (codes "int") ∷ Atom (codes "int") ∷ []) ≡ Refused refusal.BadProperty
unfolding drafted formula
by_position_too_many = refl

-- `pred p(X, Y) : (int(X), list(Y, t) ; true)`
joined_formula : read (Func (codes "pred") 1 ∷ Func (codes ":") 2 ∷ Func (codes "p") 2 ∷ Var 0 ∷ Var 1 ∷ Func (codes ";") 2 ∷ Func (codes ",") 2 ∷ Func (codes "int") 1 ∷ Var 0 ∷ Func (codes "list") 2 ∷ Var 1 ∷ Atom (codes "t") ∷ Atom (codes "true") ∷ []) ≡ reads status.Check kind.Pred 2 (Either (Both (Of (codes "int") 0) (ListOf (codes "t") 1)) Always) Always
unfolding drafted formula
joined_formula = refl

-- `pred p(X, X) : int(X)`
head_repeats_a_variable : read (Func (codes "pred") 1 ∷ Func (codes ":") 2 ∷ Func (codes "p") 2 ∷ Var 0 ∷ Var 0 ∷ Func (codes "int") 1 ∷ Var 0 ∷ []) ≡ Refused refusal.BadHead
unfolding drafted formula
head_repeats_a_variable = refl

-- `pred 3`
head_is_an_integer : read (Func (codes "pred") 1 ∷ Int (pos 3) ∷ []) ≡ Refused refusal.BadHead
unfolding drafted formula
head_is_an_integer = refl

-- `pred p(X) : int(Y)`
property_of_another_variable : read (Func (codes "pred") 1 ∷ Func (codes ":") 2 ∷ Func (codes "p") 1 ∷ Var 0 ∷ Func (codes "int") 1 ∷ Var 1 ∷ []) ≡ Refused refusal.BadProperty
unfolding drafted formula
property_of_another_variable = refl

-- `pred p(X) : foo(X)`
name_of_no_property : read (Func (codes "pred") 1 ∷ Func (codes ":") 2 ∷ Func (codes "p") 1 ∷ Var 0 ∷ Func (codes "foo") 1 ∷ Var 0 ∷ []) ≡ Refused refusal.BadProperty
unfolding drafted formula
name_of_no_property = refl

-- `pred p`, where p is declared `data`
on_shared : read (Func (codes "pred") 1 ∷ Atom (codes "p") ∷ []) ≡ Refused refusal.OnShared
unfolding drafted formula
on_shared = refl

-- `regtype t(X)`
no_assertion : read (Func (codes "regtype") 1 ∷ Func (codes "t") 1 ∷ Var 0 ∷ []) ≡ Refused refusal.NotAssertion
unfolding drafted formula
no_assertion = refl

-- `check p(X)`
status_without_kind : read (Func (codes "check") 1 ∷ Func (codes "p") 1 ∷ Var 0 ∷ []) ≡ Refused refusal.NotAssertion
unfolding drafted formula
status_without_kind = refl

-- a predicate that the module does not define
no_such_predicate : assertion (λ f k. standing.NotDefined) is_type (Func (codes "pred") 1 ∷ Func (codes "p") 1 ∷ Var 0 ∷ []) ≡ Refused refusal.BadHead
unfolding drafted formula
no_such_predicate = refl

-- ---- regular types: u is a type, and v one that has its clauses already

abbrev types : List ℕ → Bool
types name = is name "t" || is name "u" || is name "v"

abbrev regular : List Cell → Bool
regular whole = is_regular types (λ name. is name "v") (codes "t") whole

-- `t(a).`
fact_is_regular : regular (Func (codes "t") 1 ∷ Atom (codes "a") ∷ []) ≡ true
unfolding uses demands_of
fact_is_regular = refl

-- `t(f(X, Y)) :- m:int(X), m:list(Y, u).`
pattern_of_two : regular (Func (codes ":-") 2 ∷ Func (codes "t") 1 ∷ Func (codes "f") 2 ∷ Var 0 ∷ Var 1 ∷ Func (codes ",") 2 ∷ Func (codes ":") 2 ∷ Atom (codes "m") ∷ Func (codes "int") 1 ∷ Var 0 ∷ Func (codes ":") 2 ∷ Atom (codes "m") ∷ Func (codes "list") 2 ∷ Var 1 ∷ Atom (codes "u") ∷ []) ≡ true
unfolding uses demands_of
pattern_of_two = refl

-- `t(f(X, X)).`
variable_twice : regular (Func (codes "t") 1 ∷ Func (codes "f") 2 ∷ Var 0 ∷ Var 0 ∷ []) ≡ false
unfolding uses demands_of
variable_twice = refl

-- `t(f(X)) :- m:int(X), m:atm(X).`
two_properties_of_one : regular (Func (codes ":-") 2 ∷ Func (codes "t") 1 ∷ Func (codes "f") 1 ∷ Var 0 ∷ Func (codes ",") 2 ∷ Func (codes ":") 2 ∷ Atom (codes "m") ∷ Func (codes "int") 1 ∷ Var 0 ∷ Func (codes ":") 2 ∷ Atom (codes "m") ∷ Func (codes "atm") 1 ∷ Var 0 ∷ []) ≡ false
unfolding uses demands_of
two_properties_of_one = refl

-- `t(a) :- true.`
body_of_true : regular (Func (codes ":-") 2 ∷ Func (codes "t") 1 ∷ Atom (codes "a") ∷ Atom (codes "true") ∷ []) ≡ false
unfolding uses demands_of
body_of_true = refl

-- `t(X).`
variable_alone : regular (Func (codes "t") 1 ∷ Var 0 ∷ []) ≡ false
unfolding uses demands_of
variable_alone = refl

-- `t(X) :- m:int(X).`
alias_of_the_language : regular (Func (codes ":-") 2 ∷ Func (codes "t") 1 ∷ Var 0 ∷ Func (codes ":") 2 ∷ Atom (codes "m") ∷ Func (codes "int") 1 ∷ Var 0 ∷ []) ≡ true
unfolding uses demands_of
alias_of_the_language = refl

-- `t(X) :- m:v(X).`
alias_of_an_earlier_type : regular (Func (codes ":-") 2 ∷ Func (codes "t") 1 ∷ Var 0 ∷ Func (codes ":") 2 ∷ Atom (codes "m") ∷ Func (codes "v") 1 ∷ Var 0 ∷ []) ≡ true
unfolding uses demands_of
alias_of_an_earlier_type = refl

-- `t(X) :- m:u(X).`
alias_of_a_later_type : regular (Func (codes ":-") 2 ∷ Func (codes "t") 1 ∷ Var 0 ∷ Func (codes ":") 2 ∷ Atom (codes "m") ∷ Func (codes "u") 1 ∷ Var 0 ∷ []) ≡ false
unfolding uses demands_of
alias_of_a_later_type = refl

-- `t(X) :- m:list(X, u).`
list_of_any_property : regular (Func (codes ":-") 2 ∷ Func (codes "t") 1 ∷ Var 0 ∷ Func (codes ":") 2 ∷ Atom (codes "m") ∷ Func (codes "list") 2 ∷ Var 0 ∷ Atom (codes "u") ∷ []) ≡ true
unfolding uses demands_of
list_of_any_property = refl

-- `t(f(X)) :- m:foo(X).`
property_of_no_type : regular (Func (codes ":-") 2 ∷ Func (codes "t") 1 ∷ Func (codes "f") 1 ∷ Var 0 ∷ Func (codes ":") 2 ∷ Atom (codes "m") ∷ Func (codes "foo") 1 ∷ Var 0 ∷ []) ≡ false
unfolding uses demands_of
property_of_no_type = refl

-- `t(f(X)) :- m:int(Y).`
property_of_another : regular (Func (codes ":-") 2 ∷ Func (codes "t") 1 ∷ Func (codes "f") 1 ∷ Var 0 ∷ Func (codes ":") 2 ∷ Atom (codes "m") ∷ Func (codes "int") 1 ∷ Var 1 ∷ []) ≡ false
unfolding uses demands_of
property_of_another = refl
