-- What goals do, on worked examples: bodies, units, cuts, catch and throw, findall, goals that are made at run time, requests
-- and their replies, remote predicates, assertions, and what the machine asks on three of them. A row with `exactly` says
-- how many units lead to an end: with one less the goal ends for want of units. Any other row is of the units in it alone.
use Rattle.std.proofs.Common.{◌≡◌, refl, true, false, ℕ, zero, suc, ◌&&◌, List, [], ◌∷◌, ◌++◌, pos, negsuc}
use Rattle.std.specs.Prelude.{codes, Option, Some, None, cond, nat_eq}
use Rattle.std.specs.Str.{bytes_eq}
use Prim.Native.String.{String}
use Rattle.cp_term.specs.declared.cell.Cell.{Cell}
use Rattle.cp_term.specs.declared.cell.Cell.TheVariants.{Var, Int, Func}
use Rattle.cp_goal.specs.Errors.{word, with_one, with_two, instantiation_error, type_error, resource_error}
use Rattle.cp_goal.specs.Builtins.{context, error_term}
use Rattle.cp_goal.specs.Lists.{list_term}
use Rattle.cp_ops.specs.Standard.{standard}
use Rattle.cp_call.specs.declared.call.Call.TheVariants as call
use Rattle.cp_call.specs.declared.call.Reply.TheVariants as reply
use Rattle.cp_call.specs.declared.call.FullBy.TheVariants as full
use Rattle.cp_call.specs.declared.item.PutReply.TheVariants as put
use Rattle.cp_call.specs.declared.item.How.TheVariants as how
use Rattle.cp_call.specs.declared.item.RemoteEnd.{RemoteEnd}
use Rattle.cp_call.specs.declared.item.RemoteEnd.TheVariants as ended
use Rattle.cp_call.specs.declared.item.RemoteReply.TheVariants as replied
use Rattle.cp_call.specs.declared.item.Next.{Next}
use Rattle.cp_call.specs.declared.item.Next.TheVariants as request
use Rattle.cp_call.specs.declared.item.Input.{Input}
use Rattle.cp_call.specs.declared.item.Input.TheVariants as input
use Rattle.cp_code.specs.Bodies.{Body, Cut, True, Fail, Both, Choose, CallOf, Plain, body_of, fresh_body, seen_from}
use Rattle.cp_code.specs.Properties.{Of, Always, holds}
use Rattle.cp_code.specs.Checks.{Check, OfPred, OfCalls, OfSuccess, broken_call, held, broken_exit}
use Rattle.cp_code.specs.Code.{Code, Clause, Pred, Kind, Rules, Shared, Remote}
use Rattle.cp_code.specs.Goals.{builtin_goal}
use Rattle.cp_code.specs.Tree.{tree, asks}
use Rattle.cp_code.specs.Machine.{first_state}
use Rattle.cp_code.specs.Walk.{walk}

-- ---- terms

abbrev m : List ℕ
m = codes "m"

abbrev pub v : ℕ → List Cell
v n = Var n ∷ []

abbrev pub a : String → List Cell
a name = word (codes name)

abbrev pub n : ℕ → List Cell
n k = Int (pos k) ∷ []

abbrev pub f1 : String → List Cell → List Cell
f1 name x = with_one (codes name) x

abbrev pub f2 : String → List Cell → List Cell → List Cell
f2 name x y = with_two (codes name) x y

abbrev pub f3 : String → List Cell → List Cell → List Cell → List Cell
f3 name x y z = Func (codes name) 3 ∷ x ++ y ++ z

abbrev pub also : List Cell → List Cell → List Cell
also g h = f2 "," g h

-- ---- bodies

-- (p(X) -> ! ; true, \+ q)
a_choice : body_of m (f2 ";" (f2 "->" (f1 "p" (v 0)) (a "!")) (also (a "true") (f1 "\\+" (a "q"))))
    ≡ Some (Choose (Plain m (f1 "p" (v 0))) Cut (Both True (Choose (Plain m (a "q")) Fail True)))
unfolding body_of
a_choice = refl

-- b:(X, c:p)
modules_go_inward : body_of m (f2 ":" (a "b") (also (v 0) (f2 ":" (a "c") (a "p")))) ≡ Some (Both (CallOf (codes "b") (v 0) []) (Plain (codes "c") (a "p")))
unfolding body_of
modules_go_inward = refl

a_number_is_no_goal : body_of m (also (a "true") (n 3)) ≡ None
unfolding body_of
a_number_is_no_goal = refl

-- ---- programs

abbrev body_or_fail : Option Body → Body
body_or_fail (Some b) = b
body_or_fail None = Fail

abbrev pub rule : (variables : ℕ) → (head body : List Cell) → Clause
rule variables head body = record { head = head; body = Some (body_or_fail (body_of m body)); variables = variables }

abbrev pub fact : (variables : ℕ) → (head : List Cell) → Clause
fact variables head = record { head = head; body = None; variables = variables }

abbrev pub pred : String → ℕ → Kind → Pred
pred name arity kind = record { name = record { «module» = m; name = codes name; arity = arity }; goals = []; kind = kind }

abbrev number_of : List Pred → ℕ → List ℕ → ℕ → Option ℕ
number_of [] k name arity = None
number_of (p ∷ preds) k name arity = cond (bytes_eq p.name.name name && nat_eq p.name.arity arity) (Some k) (number_of preds (suc k) name arity)

abbrev pub program : (budget : ℕ) → List Pred → Code
program budget preds = record {
  first = m;
  preds = preds;
  renamed = [];
  sees = λ seer name arity. number_of preds 0 name arity;
  types = [];
  ops = λ name. standard;
  budget = budget;
}

-- a predicate `main` with this body, and others beside it
abbrev pub main_and : (budget : ℕ) → List Pred → List Cell → Code
main_and budget others body = program budget (pred "main" 0 (Rules [] (rule 9 (a "main") body ∷ [])) ∷ others)

-- what `main` does next, after these inputs
abbrev run : (budget : ℕ) → List Pred → List Cell → List Input → Next
run budget others body inputs = asks (main_and budget others body) (a "main") inputs

abbrev pub found : Next
found = request.Answer (a "main")

abbrev pub no : Next
no = request.End how.Done

abbrev pub raised : List Cell → List Cell → Next
raised kind ctx = request.End (how.Ball (error_term kind ctx))

-- what `main` does next with so many units, and with one less
abbrev units : ℕ → List Pred → List Cell → List Input → List Next
units zero others body inputs = []
units (suc less) others body inputs = run (suc less) others body inputs ∷ run less others body inputs ∷ []

-- this with so many units, and with one less the end for want of units
abbrev exactly : Next → List Next
exactly next = next ∷ request.End how.Steps ∷ []

-- ---- units

three_units_are_enough : run 3 [] (also (a "true") (a "true")) [] ≡ found
unfolding body_of fresh_body seen_from builtin_goal tree holds broken_call held broken_exit
three_units_are_enough = refl

two_units_are_not : run 2 [] (also (a "true") (a "true")) [] ≡ request.End how.Steps
unfolding body_of fresh_body seen_from builtin_goal tree holds broken_call held broken_exit
two_units_are_not = refl

main_calls_itself : run 5 [] (a "main") [] ≡ request.End how.Steps
unfolding body_of fresh_body seen_from builtin_goal tree holds broken_call held broken_exit
main_calls_itself = refl

-- \+ fail: the negation, the goal that fails, and the `true` behind it
a_negation_costs_three : units 4 [] (f1 "\\+" (a "fail")) [] ≡ exactly found
unfolding body_of fresh_body seen_from builtin_goal tree holds broken_call held broken_exit
a_negation_costs_three = refl

-- a fact costs nothing beside its call, and a rule with the body `true` one unit more
a_fact_costs_nothing : run 2 (pred "p" 1 (Rules [] (fact 0 (f1 "p" (n 1)) ∷ [])) ∷ []) (f1 "p" (n 1)) [] ≡ found
unfolding body_of fresh_body seen_from builtin_goal tree holds broken_call held broken_exit
a_fact_costs_nothing = refl

less_than_its_call : run 1 (pred "p" 1 (Rules [] (fact 0 (f1 "p" (n 1)) ∷ [])) ∷ []) (f1 "p" (n 1)) [] ≡ request.End how.Steps
unfolding body_of fresh_body seen_from builtin_goal tree holds broken_call held broken_exit
less_than_its_call = refl

true_costs_a_unit : units 3 (pred "p" 1 (Rules [] (rule 0 (f1 "p" (n 1)) (a "true") ∷ [])) ∷ []) (f1 "p" (n 1)) [] ≡ exactly found
unfolding body_of fresh_body seen_from builtin_goal tree holds broken_call held broken_exit
true_costs_a_unit = refl

a_call_costs_2 : run 3 [] (f1 "call" (a "true")) [] ≡ found
unfolding body_of fresh_body seen_from builtin_goal tree holds broken_call held broken_exit
a_call_costs_2 = refl

less_than_a_call : run 2 [] (f1 "call" (a "true")) [] ≡ request.End how.Steps
unfolding body_of fresh_body seen_from builtin_goal tree holds broken_call held broken_exit
less_than_a_call = refl

a_choice_costs_3 : run 4 [] (f2 ";" (f2 "->" (a "true") (a "true")) (a "fail")) [] ≡ found
unfolding body_of fresh_body seen_from builtin_goal tree holds broken_call held broken_exit
a_choice_costs_3 = refl

less_than_a_choice : run 3 [] (f2 ";" (f2 "->" (a "true") (a "true")) (a "fail")) [] ≡ request.End how.Steps
unfolding body_of fresh_body seen_from builtin_goal tree holds broken_call held broken_exit
less_than_a_choice = refl

another_side_costs_4 : run 5 [] (f2 ";" (f2 "->" (a "fail") (a "true")) (also (a "true") (a "true"))) [] ≡ found
unfolding body_of fresh_body seen_from builtin_goal tree holds broken_call held broken_exit
another_side_costs_4 = refl

less_than_another_side : run 4 [] (f2 ";" (f2 "->" (a "fail") (a "true")) (also (a "true") (a "true"))) [] ≡ request.End how.Steps
unfolding body_of fresh_body seen_from builtin_goal tree holds broken_call held broken_exit
less_than_another_side = refl

a_recovery_costs_3 : run 4 [] (f3 "catch" (f1 "throw" (a "b")) (a "b") (a "true")) [] ≡ found
unfolding body_of fresh_body seen_from builtin_goal tree holds broken_call held broken_exit
a_recovery_costs_3 = refl

less_than_a_recovery : run 3 [] (f3 "catch" (f1 "throw" (a "b")) (a "b") (a "true")) [] ≡ request.End how.Steps
unfolding body_of fresh_body seen_from builtin_goal tree holds broken_call held broken_exit
less_than_a_recovery = refl

a_findall_costs_4 : run 5 [] (f3 "findall" (v 0) (f2 ";" (a "true") (a "true")) (v 1)) [] ≡ found
unfolding body_of fresh_body seen_from builtin_goal tree holds broken_call held broken_exit
a_findall_costs_4 = refl

less_than_a_findall : run 4 [] (f3 "findall" (v 0) (f2 ";" (a "true") (a "true")) (v 1)) [] ≡ request.End how.Steps
unfolding body_of fresh_body seen_from builtin_goal tree holds broken_call held broken_exit
less_than_a_findall = refl

a_cut_costs_2 : run 3 [] (also (a "true") (a "!")) [] ≡ found
unfolding body_of fresh_body seen_from builtin_goal tree holds broken_call held broken_exit
a_cut_costs_2 = refl

less_than_a_cut : run 2 [] (also (a "true") (a "!")) [] ≡ request.End how.Steps
unfolding body_of fresh_body seen_from builtin_goal tree holds broken_call held broken_exit
less_than_a_cut = refl

-- ( fail -> true ): the condition, its `fail`, and the `fail` that stands for the other side
nothing_follows_a_condition_that_fails : units 4 [] (f2 "->" (a "fail") (a "true")) [] ≡ exactly no
unfolding body_of fresh_body seen_from builtin_goal tree holds broken_call held broken_exit
nothing_follows_a_condition_that_fails = refl

-- ---- cuts

-- t :- !, fail. t.
abbrev pub cuts : Pred
cuts = pred "t" 0 (Rules [] (rule 0 (a "t") (also (a "!") (a "fail")) ∷ rule 0 (a "t") (a "true") ∷ []))

a_cut_drops_the_clauses : units 4 (cuts ∷ []) (a "t") [] ≡ exactly no
unfolding body_of fresh_body seen_from builtin_goal tree holds broken_call held broken_exit
a_cut_drops_the_clauses = refl

-- s :- (! -> fail). s.
a_cut_in_a_condition_is_local : units 6 (pred "s" 0 (Rules [] (rule 0 (a "s") (f2 "->" (a "!") (a "fail")) ∷ rule 0 (a "s") (a "true") ∷ [])) ∷ []) (a "s") [] ≡ exactly found
unfolding body_of fresh_body seen_from builtin_goal tree holds broken_call held broken_exit
a_cut_in_a_condition_is_local = refl

-- s :- (true -> !, fail). s.
a_cut_behind_a_condition_is_not : units 6 (pred "s" 0 (Rules [] (rule 0 (a "s") (f2 "->" (a "true") (also (a "!") (a "fail"))) ∷ rule 0 (a "s") (a "true") ∷ [])) ∷ []) (a "s") [] ≡ exactly no
unfolding body_of fresh_body seen_from builtin_goal tree holds broken_call held broken_exit
a_cut_behind_a_condition_is_not = refl

-- s :- call(!), fail. s.
a_cut_in_a_call_is_local : units 6 (pred "s" 0 (Rules [] (rule 0 (a "s") (also (f1 "call" (a "!")) (a "fail")) ∷ rule 0 (a "s") (a "true") ∷ [])) ∷ []) (a "s") [] ≡ exactly found
unfolding body_of fresh_body seen_from builtin_goal tree holds broken_call held broken_exit
a_cut_in_a_call_is_local = refl

-- s :- \+ (!, fail), fail. s.
a_cut_in_a_negation_is_local : units 8 (pred "s" 0 (Rules [] (rule 1 (a "s") (also (f1 "\\+" (also (a "!") (a "fail"))) (a "fail")) ∷ rule 0 (a "s") (a "true") ∷ [])) ∷ []) (a "s") [] ≡ exactly found
unfolding body_of fresh_body seen_from builtin_goal tree holds broken_call held broken_exit
a_cut_in_a_negation_is_local = refl

-- s :- findall(x, !, _), fail. s.
a_cut_in_a_findall_is_local : units 6 (pred "s" 0 (Rules [] (rule 1 (a "s") (also (f3 "findall" (a "x") (a "!") (v 0)) (a "fail")) ∷ rule 0 (a "s") (a "true") ∷ [])) ∷ []) (a "s") [] ≡ exactly found
unfolding body_of fresh_body seen_from builtin_goal tree holds broken_call held broken_exit
a_cut_in_a_findall_is_local = refl

-- ---- catch and throw

-- catch((X = 1, throw(f(X))), f(Y), Y = 1)
a_ball_is_a_copy : units 5 [] (f3 "catch" (also (f2 "=" (v 0) (n 1)) (f1 "throw" (f1 "f" (v 0)))) (f1 "f" (v 1)) (f2 "=" (v 1) (n 1))) [] ≡ exactly found
unfolding body_of fresh_body seen_from builtin_goal tree holds broken_call held broken_exit
a_ball_is_a_copy = refl

-- catch(true, X, fail), throw(b)
a_catch_that_was_left_catches_nothing : units 4 [] (also (f3 "catch" (a "true") (v 0) (a "fail")) (f1 "throw" (a "b"))) [] ≡ exactly (request.End (how.Ball (a "b")))
unfolding body_of fresh_body seen_from builtin_goal tree holds broken_call held broken_exit
a_catch_that_was_left_catches_nothing = refl

-- catch(catch(throw(b), c, true), b, true)
an_outer_catch_catches : units 5 [] (f3 "catch" (f3 "catch" (f1 "throw" (a "b")) (a "c") (a "true")) (a "b") (a "true")) [] ≡ exactly found
unfolding body_of fresh_body seen_from builtin_goal tree holds broken_call held broken_exit
an_outer_catch_catches = refl

nothing_unbound_is_thrown : units 2 [] (f1 "throw" (v 0)) [] ≡ exactly (raised instantiation_error (context m (codes "throw") 1))
unfolding body_of fresh_body seen_from builtin_goal tree holds broken_call held broken_exit
nothing_unbound_is_thrown = refl

-- catch(catch(throw(b), b, true), b, fail)
the_inner_catch_catches : units 5 [] (f3 "catch" (f3 "catch" (f1 "throw" (a "b")) (a "b") (a "true")) (a "b") (a "fail")) [] ≡ exactly found
unfolding body_of fresh_body seen_from builtin_goal tree holds broken_call held broken_exit
the_inner_catch_catches = refl

-- catch(catch(throw(b), c, true), d, true)
no_catch_catches : units 4 [] (f3 "catch" (f3 "catch" (f1 "throw" (a "b")) (a "c") (a "true")) (a "d") (a "true")) [] ≡ exactly (request.End (how.Ball (a "b")))
unfolding body_of fresh_body seen_from builtin_goal tree holds broken_call held broken_exit
no_catch_catches = refl

-- catch(catch(throw(b), X, throw(c(X))), c(Y), Y == b)
a_recovery_throws_outside : units 6 [] (f3 "catch" (f3 "catch" (f1 "throw" (a "b")) (v 0) (f1 "throw" (f1 "c" (v 0)))) (f1 "c" (v 1)) (f2 "==" (v 1) (a "b"))) [] ≡ exactly found
unfolding body_of fresh_body seen_from builtin_goal tree holds broken_call held broken_exit
a_recovery_throws_outside = refl

-- catch(throw(b), X, throw(X))
a_recovery_is_not_caught_by_its_own_catch : units 4 [] (f3 "catch" (f1 "throw" (a "b")) (v 0) (f1 "throw" (v 0))) [] ≡ exactly (request.End (how.Ball (a "b")))
unfolding body_of fresh_body seen_from builtin_goal tree holds broken_call held broken_exit
a_recovery_is_not_caught_by_its_own_catch = refl

-- catch((X = 1, throw(b)), b, true), X = 2
a_catch_forgets_bindings : units 6 [] (also (f3 "catch" (also (f2 "=" (v 0) (n 1)) (f1 "throw" (a "b"))) (a "b") (a "true")) (f2 "=" (v 0) (n 2))) [] ≡ exactly found
unfolding body_of fresh_body seen_from builtin_goal tree holds broken_call held broken_exit
a_catch_forgets_bindings = refl

-- catch((true ; throw(a)), X, true), X == a: with `true` X is unbound, and behind the recovery it is the ball
a_catch_that_is_met_again_catches : units 8 [] (also (f3 "catch" (f2 ";" (a "true") (f1 "throw" (a "a"))) (v 0) (a "true")) (f2 "==" (v 0) (a "a"))) [] ≡ exactly found
unfolding body_of fresh_body seen_from builtin_goal tree holds broken_call held broken_exit
a_catch_that_is_met_again_catches = refl

-- catch((true ; true), a, true), throw(a): a choice is left in the catch, and the ball is thrown behind it
a_ball_behind_a_catch_is_not_caught : units 5 [] (also (f3 "catch" (f2 ";" (a "true") (a "true")) (a "a") (a "true")) (f1 "throw" (a "a"))) [] ≡ exactly (request.End (how.Ball (a "a")))
unfolding body_of fresh_body seen_from builtin_goal tree holds broken_call held broken_exit
a_ball_behind_a_catch_is_not_caught = refl

-- catch((true ; throw(a)), X, true), throw(b): the ball b ends the goal before the choice that is left is tried
a_ball_goes_past_a_catch_that_was_left : units 5 [] (also (f3 "catch" (f2 ";" (a "true") (f1 "throw" (a "a"))) (v 0) (a "true")) (f1 "throw" (a "b"))) [] ≡ exactly (request.End (how.Ball (a "b")))
unfolding body_of fresh_body seen_from builtin_goal tree holds broken_call held broken_exit
a_ball_goes_past_a_catch_that_was_left = refl

-- catch((true ; throw(a)), b, true), fail: the choice that is left throws what the catch does not want
a_catch_that_is_met_again_lets_other_balls_by : units 6 [] (also (f3 "catch" (f2 ";" (a "true") (f1 "throw" (a "a"))) (a "b") (a "true")) (a "fail")) [] ≡ exactly (request.End (how.Ball (a "a")))
unfolding body_of fresh_body seen_from builtin_goal tree holds broken_call held broken_exit
a_catch_that_is_met_again_lets_other_balls_by = refl

-- ---- findall

-- findall(X, (X = 1 ; X = 2), L), L = [1, 2]
solutions_are_gathered : units 6 [] (also (f3 "findall" (v 0) (f2 ";" (f2 "=" (v 0) (n 1)) (f2 "=" (v 0) (n 2))) (v 1)) (f2 "=" (v 1) (list_term (n 1 ∷ n 2 ∷ [])))) [] ≡ exactly found
unfolding body_of fresh_body seen_from builtin_goal tree holds broken_call held broken_exit
solutions_are_gathered = refl

-- findall(L, findall(X, (X = 1 ; X = 2), L), M), M == [[1, 2]]
findall_in_findall : units 7 [] (also (f3 "findall" (v 1) (f3 "findall" (v 0) (f2 ";" (f2 "=" (v 0) (n 1)) (f2 "=" (v 0) (n 2))) (v 1)) (v 2)) (f2 "==" (v 2) (list_term (list_term (n 1 ∷ n 2 ∷ []) ∷ [])))) [] ≡ exactly found
unfolding body_of fresh_body seen_from builtin_goal tree holds broken_call held broken_exit
findall_in_findall = refl

-- findall(X, (true ; true), L), L = [1, 2], X = 3
each_copy_has_variables_of_its_own : units 7 [] (also (f3 "findall" (v 0) (f2 ";" (a "true") (a "true")) (v 1)) (also (f2 "=" (v 1) (list_term (n 1 ∷ n 2 ∷ []))) (f2 "=" (v 0) (n 3)))) [] ≡ exactly found
unfolding body_of fresh_body seen_from builtin_goal tree holds broken_call held broken_exit
each_copy_has_variables_of_its_own = refl

-- ---- goals made at run time

-- call((fail, 1))
all_of_a_body_is_judged_first : units 2 [] (f1 "call" (also (a "fail") (n 1))) [] ≡ exactly (raised (type_error (codes "callable") (also (a "fail") (n 1))) (context m (codes "call") 1))
unfolding body_of fresh_body seen_from builtin_goal tree holds broken_call held broken_exit
all_of_a_body_is_judged_first = refl

-- `_:q(1)` and `1:p` have no module, and so they are no callables
a_fact_of_no_module_is_no_callable : units 2 (pred "q" 1 (Shared 2 true) ∷ []) (f1 "assertz_fact" (f2 ":" (v 0) (f1 "q" (n 1)))) [] ≡ exactly (raised (type_error (codes "callable") (f2 ":" (v 0) (f1 "q" (n 1)))) (context m (codes "assertz_fact") 1))
unfolding body_of fresh_body seen_from builtin_goal tree holds broken_call held broken_exit
a_fact_of_no_module_is_no_callable = refl

a_closure_of_no_module_is_no_callable : units 2 [] (f2 "call" (f2 ":" (n 1) (a "p")) (n 2)) [] ≡ exactly (raised (type_error (codes "callable") (f2 ":" (n 1) (a "p"))) (context m (codes "call") 2))
unfolding body_of fresh_body seen_from builtin_goal tree holds broken_call held broken_exit
a_closure_of_no_module_is_no_callable = refl

-- call(=(X), 1)
arguments_are_added : units 3 [] (f2 "call" (f1 "=" (v 0)) (n 1)) [] ≡ exactly found
unfolding body_of fresh_body seen_from builtin_goal tree holds broken_call held broken_exit
arguments_are_added = refl

an_unknown_goal_raises : units 2 [] (f1 "p" (v 0)) [] ≡ exactly (raised (with_two (codes "existence_error") (a "procedure") (context m (codes "p") 1)) (context m (codes "p") 1))
unfolding body_of fresh_body seen_from builtin_goal tree holds broken_call held broken_exit
an_unknown_goal_raises = refl

-- foo
an_unknown_atom_raises : units 2 [] (a "foo") [] ≡ exactly (raised (with_two (codes "existence_error") (a "procedure") (context m (codes "foo") 0)) (context m (codes "foo") 0))
unfolding body_of fresh_body seen_from builtin_goal tree holds broken_call held broken_exit
an_unknown_atom_raises = refl

-- X = f(X)
no_term_is_in_itself : units 2 [] (f2 "=" (v 0) (f1 "f" (v 0))) [] ≡ exactly no
unfolding body_of fresh_body seen_from builtin_goal tree holds broken_call held broken_exit
no_term_is_in_itself = refl

-- X is - 1 - -2*3, X == 5
minus_signs : units 3 [] (also (f2 "is" (v 0) (f2 "-" (f1 "-" (n 1)) (f2 "*" (Int (negsuc 1) ∷ []) (n 3)))) (f2 "==" (v 0) (n 5))) [] ≡ exactly found
unfolding body_of fresh_body seen_from builtin_goal tree holds broken_call held broken_exit
minus_signs = refl

-- ---- requests

abbrev pub shared : Pred
shared = pred "q" 1 (Shared 2 true)

a_shared_goal_asks_for_the_first_fact : units 2 (shared ∷ []) (f1 "q" (v 0)) [] ≡ exactly (request.Ask 2 (call.Next (f1 "q" (v 0)) None))
unfolding body_of fresh_body seen_from builtin_goal tree holds broken_call held broken_exit
a_shared_goal_asks_for_the_first_fact = refl

-- q(X), X = 2: after the fact q(1) at place 1 the question goes on behind it
backtracking_asks_behind_the_fact : units 4 (shared ∷ []) (also (f1 "q" (v 0)) (f2 "=" (v 0) (n 2))) (input.Reply (reply.Found (pos 1) (f1 "q" (n 1))) ∷ []) ≡ exactly (request.Ask 2 (call.Next (f1 "q" (v 0)) (Some (pos 1))))
unfolding body_of fresh_body seen_from builtin_goal tree holds broken_call held broken_exit
backtracking_asks_behind_the_fact = refl

the_second_asking_costs_a_unit : run 3 (shared ∷ []) (also (f1 "q" (v 0)) (f2 "=" (v 0) (n 2))) (input.Reply (reply.Found (pos 1) (f1 "q" (n 1))) ∷ []) ≡ request.End how.Steps
unfolding body_of fresh_body seen_from builtin_goal tree holds broken_call held broken_exit
the_second_asking_costs_a_unit = refl

a_parked_goal_asks_the_same : units 2 (shared ∷ []) (f1 "q" (v 0)) (input.Reply reply.Parked ∷ input.Reply reply.Parked ∷ []) ≡ exactly (request.Ask 2 (call.Next (f1 "q" (v 0)) None))
unfolding body_of fresh_body seen_from builtin_goal tree holds broken_call held broken_exit
a_parked_goal_asks_the_same = refl

a_closed_predicate_has_no_more : units 2 (shared ∷ []) (f1 "q" (v 0)) (input.Reply reply.NoMore ∷ []) ≡ exactly no
unfolding body_of fresh_body seen_from builtin_goal tree holds broken_call held broken_exit
a_closed_predicate_has_no_more = refl

-- close_predicate(q(X))
a_concurrent_predicate_is_closed : units 2 (shared ∷ []) (f1 "close_predicate" (f1 "q" (v 0))) [] ≡ exactly (request.Ask 2 call.Close)
unfolding body_of fresh_body seen_from builtin_goal tree holds broken_call held broken_exit
a_concurrent_predicate_is_closed = refl

-- closing one that is closed already is no failure
a_predicate_is_closed_twice : units 3 (shared ∷ []) (also (f1 "close_predicate" (f1 "q" (v 0))) (f1 "close_predicate" (f1 "q" (v 0)))) (input.Reply (reply.Closed []) ∷ input.Reply (reply.Closed []) ∷ []) ≡ exactly found
unfolding body_of fresh_body seen_from builtin_goal tree holds broken_call held broken_exit
a_predicate_is_closed_twice = refl

-- current_fact_nb(q(X))
a_look_that_does_not_wait : units 2 (shared ∷ []) (f1 "current_fact_nb" (f1 "q" (v 0))) [] ≡ exactly (request.Ask 2 (call.NextNb (f1 "q" (v 0)) None))
unfolding body_of fresh_body seen_from builtin_goal tree holds broken_call held broken_exit
a_look_that_does_not_wait = refl

-- and where there is no fact it fails
a_look_that_does_not_wait_finds_nothing : units 2 (shared ∷ []) (f1 "current_fact_nb" (f1 "q" (v 0))) (input.Reply reply.NoMore ∷ []) ≡ exactly no
unfolding body_of fresh_body seen_from builtin_goal tree holds broken_call held broken_exit
a_look_that_does_not_wait_finds_nothing = refl

-- eng_call(g, create, create, Id)
a_goal_is_posted_with_its_module : units 2 [] (Func (codes "eng_call") 4 ∷ a "g" ++ a "create" ++ a "create" ++ v 0) [] ≡ exactly (request.Ask 0 (call.AddBack (f2 ":" (a "m") (a "g"))))
unfolding body_of fresh_body seen_from builtin_goal tree holds broken_call held broken_exit
a_goal_is_posted_with_its_module = refl

a_failed_write_raises : units 2 [] (a "nl") (input.Put put.Failed ∷ []) ≡ exactly (raised (f1 "system_error" (a "output")) (context m (codes "nl") 0))
unfolding body_of fresh_body seen_from builtin_goal tree holds broken_call held broken_exit
a_failed_write_raises = refl

-- q(X): asking again costs nothing
a_goal_that_was_parked_twice_finds : units 2 (shared ∷ []) (f1 "q" (v 0)) (input.Reply reply.Parked ∷ input.Reply reply.Parked ∷ input.Reply (reply.Found (pos 1) (f1 "q" (n 1))) ∷ []) ≡ exactly found
unfolding body_of fresh_body seen_from builtin_goal tree holds broken_call held broken_exit
a_goal_that_was_parked_twice_finds = refl

-- retract_fact(q(_)), retract_fact(q(Y)), Y == 2
another_retraction_asks_from_the_first_fact : units 3 (shared ∷ []) (also (f1 "retract_fact" (f1 "q" (v 0))) (also (f1 "retract_fact" (f1 "q" (v 1))) (f2 "==" (v 1) (n 2)))) (input.Reply (reply.Found (pos 1) (f1 "q" (n 1))) ∷ []) ≡ exactly (request.Ask 2 (call.Take (f1 "q" (v 0)) None))
unfolding body_of fresh_body seen_from builtin_goal tree holds broken_call held broken_exit
another_retraction_asks_from_the_first_fact = refl

the_second_fact_is_found : units 4 (shared ∷ []) (also (f1 "retract_fact" (f1 "q" (v 0))) (also (f1 "retract_fact" (f1 "q" (v 1))) (f2 "==" (v 1) (n 2)))) (input.Reply (reply.Found (pos 1) (f1 "q" (n 1))) ∷ input.Reply (reply.Found (pos 2) (f1 "q" (n 2))) ∷ []) ≡ exactly found
unfolding body_of fresh_body seen_from builtin_goal tree holds broken_call held broken_exit
the_second_fact_is_found = refl

-- ( retract_fact(q(_)) -> fail ; true )
no_fact_of_a_closed_predicate_is_taken : units 4 (shared ∷ []) (f2 ";" (f2 "->" (f1 "retract_fact" (f1 "q" (v 0))) (a "fail")) (a "true")) (input.Reply reply.NoMore ∷ []) ≡ exactly found
unfolding body_of fresh_body seen_from builtin_goal tree holds broken_call held broken_exit
no_fact_of_a_closed_predicate_is_taken = refl

too_many_goals : units 2 [] (Func (codes "eng_call") 4 ∷ a "g" ++ a "create" ++ a "create" ++ v 0) (input.Reply (reply.Full full.Posts 0) ∷ []) ≡ exactly (raised (resource_error (codes "goals")) (context m (codes "eng_call") 4))
unfolding body_of fresh_body seen_from builtin_goal tree holds broken_call held broken_exit
too_many_goals = refl

the_list_of_goals_is_full : units 2 [] (Func (codes "eng_call") 4 ∷ a "g" ++ a "create" ++ a "create" ++ v 0) (input.Reply (reply.Full full.Cells 0) ∷ []) ≡ exactly (raised (resource_error (codes "goals")) (context m (codes "eng_call") 4))
unfolding body_of fresh_body seen_from builtin_goal tree holds broken_call held broken_exit
the_list_of_goals_is_full = refl

-- catch(eng_call(g, create, create, _), error(E, _), true), E == resource_error(goals)
too_many_goals_are_caught : units 5 [] (also (f3 "catch" (Func (codes "eng_call") 4 ∷ a "g" ++ a "create" ++ a "create" ++ v 0) (f2 "error" (v 1) (v 2)) (a "true")) (f2 "==" (v 1) (resource_error (codes "goals")))) (input.Reply (reply.Full full.Posts 0) ∷ []) ≡ exactly found
unfolding body_of fresh_body seen_from builtin_goal tree holds broken_call held broken_exit
too_many_goals_are_caught = refl

-- ---- goals of engines

-- X = 7, eng_call(g, create, create, Id), Id == 3
a_posted_goal_has_a_number : units 4 [] (also (f2 "=" (v 0) (n 7)) (also (Func (codes "eng_call") 4 ∷ a "g" ++ a "create" ++ a "create" ++ v 1) (f2 "==" (v 1) (n 3)))) (input.Reply (reply.Added (pos 3) []) ∷ []) ≡ exactly found
unfolding body_of fresh_body seen_from builtin_goal tree holds broken_call held broken_exit
a_posted_goal_has_a_number = refl

a_goal_waits_for_the_end : units 2 [] (f1 "eng_wait" (n 2)) [] ≡ exactly (request.Ask 1 (call.Next (f2 "ended" (n 2) (v 0)) None))
unfolding body_of fresh_body seen_from builtin_goal tree holds broken_call held broken_exit
a_goal_waits_for_the_end = refl

a_goal_that_has_ended_is_waited_for_once : units 3 [] (also (f1 "eng_wait" (n 2)) (a "fail")) (input.Reply (reply.Found (pos 1) (f2 "ended" (n 2) (a "true"))) ∷ []) ≡ exactly no
unfolding body_of fresh_body seen_from builtin_goal tree holds broken_call held broken_exit
a_goal_that_has_ended_is_waited_for_once = refl

no_goal_has_the_number_0 : units 2 [] (f1 "eng_wait" (n 0)) [] ≡ exactly (raised (f2 "domain_error" (a "goal_id") (n 0)) (context m (codes "eng_wait") 1))
unfolding body_of fresh_body seen_from builtin_goal tree holds broken_call held broken_exit
no_goal_has_the_number_0 = refl

-- ---- remote predicates

abbrev remote : Pred
remote = record { name = record { «module» = codes "s"; name = codes "p"; arity = 1 }; goals = []; kind = Remote }

abbrev answers : List (List Cell) → RemoteEnd → Input
answers ts end = input.Remote (replied.Answers (record { answers = ts; end = end }))

a_remote_goal_is_handed_out : units 2 (remote ∷ []) (f1 "p" (v 3)) [] ≡ exactly (request.Remote (record { «module» = codes "s"; goal = f1 "p" (v 0); limit = 65535; looks = 10000 }))
unfolding body_of fresh_body seen_from builtin_goal tree holds broken_call held broken_exit
a_remote_goal_is_handed_out = refl

-- p(X), X == 2
each_answer_is_tried : units 4 (remote ∷ []) (also (f1 "p" (v 3)) (f2 "==" (v 3) (n 2))) (answers (f1 "p" (n 1) ∷ f1 "p" (n 2) ∷ []) ended.Done ∷ []) ≡ exactly found
unfolding body_of fresh_body seen_from builtin_goal tree holds broken_call held broken_exit
each_answer_is_tried = refl

what_was_thrown_there_is_thrown_behind_the_answers : units 3 (remote ∷ []) (also (f1 "p" (v 3)) (f2 "==" (v 3) (n 2))) (answers (f1 "p" (n 1) ∷ []) (ended.Ball (a "b")) ∷ []) ≡ exactly (request.End (how.Ball (a "b")))
unfolding body_of fresh_body seen_from builtin_goal tree holds broken_call held broken_exit
what_was_thrown_there_is_thrown_behind_the_answers = refl

no_link_raises : units 2 (remote ∷ []) (f1 "p" (v 0)) (input.Remote replied.LinkFault ∷ []) ≡ exactly (raised (f1 "system_error" (a "link")) (context (codes "s") (codes "p") 1))
unfolding body_of fresh_body seen_from builtin_goal tree holds broken_call held broken_exit
no_link_raises = refl

-- ---- kinds of predicates

a_data_predicate_is_not_closed : units 2 (pred "d" 1 (Shared 3 false) ∷ []) (f1 "close_predicate" (f1 "d" (v 0))) [] ≡ exactly (raised (f2 "domain_error" (a "concurrent") (context m (codes "d") 1)) (context m (codes "close_predicate") 1))
unfolding body_of fresh_body seen_from builtin_goal tree holds broken_call held broken_exit
a_data_predicate_is_not_closed = refl

-- twice(G) :- call(G), call(G), in another module, and hi :- nl, which only the first module sees
abbrev twice : Pred
twice = record {
  name = record { «module» = codes "b"; name = codes "twice"; arity = 1 };
  goals = true ∷ [];
  kind = Rules [] (record { head = f1 "twice" (v 0); body = Some (body_or_fail (body_of (codes "b") (also (f1 "call" (v 0)) (f1 "call" (v 0))))); variables = 1 } ∷ []);
}

abbrev twice_hi : Code
twice_hi = record (main_and 20 (twice ∷ pred "hi" 0 (Rules [] (rule 0 (a "hi") (a "nl") ∷ [])) ∷ []) (f1 "twice" (a "hi"))) {
  sees = λ seer name arity. cond (bytes_eq seer m) (number_of (main_and 20 (twice ∷ pred "hi" 0 (Rules [] []) ∷ []) (a "true")).preds 0 name arity) None;
}

a_goal_argument_keeps_its_module : asks twice_hi (a "main") (input.Put put.Wrote ∷ []) ≡ request.Put (codes "\n")
unfolding body_of fresh_body seen_from builtin_goal tree holds broken_call held broken_exit
a_goal_argument_keeps_its_module = refl

-- ---- assertions

-- :- calls p(X) : int(X).
abbrev demanding : List Check
demanding = record { number = 1; kind = OfCalls; before = Of (codes "int") 0; after = Always } ∷ []

abbrev checked : List Check → Pred
checked checks = pred "p" 1 (Rules checks (rule 1 (f1 "p" (v 0)) (a "true") ∷ rule 1 (f1 "p" (v 0)) (f2 "=" (v 0) (n 2)) ∷ []))

a_broken_demand_is_thrown : units 2 (checked demanding ∷ []) (f1 "p" (a "a")) [] ≡ exactly (request.End (how.Ball (f3 "rtcheck" (a "calls") (context m (codes "p") 1) (n 1))))
unfolding body_of fresh_body seen_from builtin_goal tree holds broken_call held broken_exit
a_broken_demand_is_thrown = refl

-- :- success p(X) => var(X), which the second exit of p(Y) alone breaks
abbrev promising : List Check
promising = record { number = 1; kind = OfSuccess; before = Always; after = Of (codes "var") 0 } ∷ []

each_exit_is_tested : units 5 (checked promising ∷ []) (also (f1 "p" (v 0)) (f2 "==" (v 0) (n 2))) [] ≡ exactly (request.End (how.Ball (f3 "rtcheck" (a "success") (context m (codes "p") 1) (n 1))))
unfolding body_of fresh_body seen_from builtin_goal tree holds broken_call held broken_exit
each_exit_is_tested = refl

tests_cost_nothing : units 3 (checked demanding ∷ []) (f1 "p" (n 1)) [] ≡ exactly found
unfolding body_of fresh_body seen_from builtin_goal tree holds broken_call held broken_exit
tests_cost_nothing = refl

-- p(a) with the demand int(X): the unit of the call is charged before its demands are tested
a_call_is_charged_before_its_demands : run 1 (checked demanding ∷ []) (f1 "p" (a "a")) [] ≡ request.End how.Steps
unfolding body_of fresh_body seen_from builtin_goal tree holds broken_call held broken_exit
a_call_is_charged_before_its_demands = refl

-- p(1) with no assertion needs as many units as with the demand int(X)
no_tests_cost_as_much : units 3 (checked [] ∷ []) (f1 "p" (n 1)) [] ≡ exactly found
unfolding body_of fresh_body seen_from builtin_goal tree holds broken_call held broken_exit
no_tests_cost_as_much = refl

-- nor does the test of an exit cost a unit
tests_of_exits_cost_nothing : units 3 (checked (record { number = 1; kind = OfSuccess; before = Always; after = Of (codes "int") 0 } ∷ []) ∷ []) (f1 "p" (n 1)) [] ≡ exactly found
unfolding body_of fresh_body seen_from builtin_goal tree holds broken_call held broken_exit
tests_of_exits_cost_nothing = refl

-- `calls p(X) : P(X)` and `pred p(X) : P(X)`, by their number
abbrev calls : ℕ → String → Check
calls k property = record { number = k; kind = OfCalls; before = Of (codes property) 0; after = Always }

abbrev pub expects : ℕ → String → Check
expects k property = record { number = k; kind = OfPred; before = Of (codes property) 0; after = Always }

abbrev broken : ℕ → Next
broken k = request.End (how.Ball (f3 "rtcheck" (a "calls") (context m (codes "p") 1) (n k)))

-- p(-1) with `calls` int and nnegint: the second alone is broken
the_second_demand_is_broken : units 2 (checked (calls 1 "int" ∷ calls 2 "nnegint" ∷ []) ∷ []) (f1 "p" (Int (negsuc 0) ∷ [])) [] ≡ exactly (broken 2)
unfolding body_of fresh_body seen_from builtin_goal tree holds broken_call held broken_exit
the_second_demand_is_broken = refl

-- p(a) with the same two: both are broken, and the least number is thrown
the_least_broken_demand_is_thrown : units 2 (checked (calls 1 "int" ∷ calls 2 "nnegint" ∷ []) ∷ []) (f1 "p" (a "a")) [] ≡ exactly (broken 1)
unfolding body_of fresh_body seen_from builtin_goal tree holds broken_call held broken_exit
the_least_broken_demand_is_thrown = refl

-- p(a) with one `pred` that demands int
a_precondition_is_broken : units 2 (checked (expects 1 "int" ∷ []) ∷ []) (f1 "p" (a "a")) [] ≡ exactly (broken 1)
unfolding body_of fresh_body seen_from builtin_goal tree holds broken_call held broken_exit
a_precondition_is_broken = refl

-- p(1) with one `pred` that demands int
a_precondition_is_met : units 3 (checked (expects 1 "int" ∷ []) ∷ []) (f1 "p" (n 1)) [] ≡ exactly found
unfolding body_of fresh_body seen_from builtin_goal tree holds broken_call held broken_exit
a_precondition_is_met = refl

-- p(a) with two `pred`, of int and of atm: it is enough that one of them is met
one_precondition_is_enough : units 3 (checked (expects 1 "int" ∷ expects 2 "atm" ∷ []) ∷ []) (f1 "p" (a "a")) [] ≡ exactly found
unfolding body_of fresh_body seen_from builtin_goal tree holds broken_call held broken_exit
one_precondition_is_enough = refl

-- p(1) with the same two: the other one is met
either_precondition_is_enough : units 3 (checked (expects 1 "int" ∷ expects 2 "atm" ∷ []) ∷ []) (f1 "p" (n 1)) [] ≡ exactly found
unfolding body_of fresh_body seen_from builtin_goal tree holds broken_call held broken_exit
either_precondition_is_enough = refl

-- p(f(a)) with the same two: none is met, and the least number is thrown
no_precondition_is_met : units 2 (checked (expects 1 "int" ∷ expects 2 "atm" ∷ []) ∷ []) (f1 "p" (f1 "f" (a "a"))) [] ≡ exactly (broken 1)
unfolding body_of fresh_body seen_from builtin_goal tree holds broken_call held broken_exit
no_precondition_is_met = refl

-- p(a) with two `pred`, of int and of atm, and a `calls` of int behind them: a `calls` is met by itself
a_demand_beside_preconditions : units 2 (checked (expects 1 "int" ∷ expects 2 "atm" ∷ calls 3 "int" ∷ []) ∷ []) (f1 "p" (a "a")) [] ≡ exactly (broken 3)
unfolding body_of fresh_body seen_from builtin_goal tree holds broken_call held broken_exit
a_demand_beside_preconditions = refl

-- :- pred p(X) : int(X) => int(X).   :- pred p(X) : atm(X) => var(X).
abbrev two_preds : List Check
two_preds =
    record { number = 1; kind = OfPred; before = Of (codes "int") 0; after = Of (codes "int") 0 }
    ∷ record { number = 2; kind = OfPred; before = Of (codes "atm") 0; after = Of (codes "var") 0 } ∷ []

-- p(1): the promise of the second is not owed, since its precondition is not met
a_promise_is_not_owed : units 3 (checked two_preds ∷ []) (f1 "p" (n 1)) [] ≡ exactly found
unfolding body_of fresh_body seen_from builtin_goal tree holds broken_call held broken_exit
a_promise_is_not_owed = refl

-- p(a): the promise of the second is owed
a_promise_is_owed : units 3 (checked two_preds ∷ []) (f1 "p" (a "a")) [] ≡ exactly (request.End (how.Ball (f3 "rtcheck" (a "success") (context m (codes "p") 1) (n 2))))
unfolding body_of fresh_body seen_from builtin_goal tree holds broken_call held broken_exit
a_promise_is_owed = refl

-- ---- the machine

-- what the machine asks of the same program, where so many moves and inputs reach so far
abbrev machine : (steps budget : ℕ) → List Pred → List Cell → List Input → Option Next
machine steps budget others body inputs = walk (main_and budget others body) (a "main") steps (first_state (main_and budget others body) (a "main")) inputs

the_machine_gathers_solutions : machine 60 20 [] (also (f3 "findall" (v 0) (f2 ";" (f2 "=" (v 0) (n 1)) (f2 "=" (v 0) (n 2))) (v 1)) (f2 "=" (v 1) (list_term (n 1 ∷ n 2 ∷ [])))) [] ≡ Some found
unfolding body_of fresh_body seen_from builtin_goal holds broken_call held broken_exit
the_machine_gathers_solutions = refl

the_machine_asks_behind_the_fact : machine 60 20 (shared ∷ []) (also (f1 "q" (v 0)) (f2 "=" (v 0) (n 2))) (input.Reply (reply.Found (pos 1) (f1 "q" (n 1))) ∷ []) ≡ Some (request.Ask 2 (call.Next (f1 "q" (v 0)) (Some (pos 1))))
unfolding body_of fresh_body seen_from builtin_goal holds broken_call held broken_exit
the_machine_asks_behind_the_fact = refl

a_cut_drops_the_frames : machine 60 20 (cuts ∷ []) (a "t") [] ≡ Some no
unfolding body_of fresh_body seen_from builtin_goal holds broken_call held broken_exit
a_cut_drops_the_frames = refl

three_moves_tell_nothing : machine 3 20 (cuts ∷ []) (a "t") [] ≡ None
unfolding body_of fresh_body seen_from builtin_goal holds broken_call held broken_exit
three_moves_tell_nothing = refl
