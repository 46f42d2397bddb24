-- What goals ask from first to last, on worked examples: what is asked behind each input in turn, and the units of it all.
use Rattle.std.proofs.Common.{◌≡◌, refl, ℕ, zero, suc, List, [], ◌∷◌, ◌++◌, pos, negsuc}
use Rattle.std.specs.Prelude.{codes, Some, None}
use Rattle.std.specs.Fmt.{digits}
use Rattle.cp_term.specs.declared.cell.Cell.{Cell}
use Rattle.cp_term.specs.declared.cell.Cell.TheVariants.{Int, Func}
use Rattle.cp_goal.specs.Builtins.{context}
use Rattle.cp_call.specs.declared.call.Call.{Call}
use Rattle.cp_call.specs.declared.call.Call.TheVariants as call
use Rattle.cp_call.specs.declared.call.Reply.{Reply}
use Rattle.cp_call.specs.declared.call.Reply.TheVariants as reply
use Rattle.cp_call.specs.declared.call.FullBy.TheVariants as full
use Rattle.cp_call.specs.declared.item.PutReply.TheVariants as put
use Rattle.cp_call.specs.declared.item.How.TheVariants as how
use Rattle.cp_call.specs.declared.item.Next.{Next}
use Rattle.cp_call.specs.declared.item.Next.TheVariants as request
use Rattle.cp_call.specs.declared.item.Input.{Input}
use Rattle.cp_call.specs.declared.item.Input.TheVariants as input
use Rattle.cp_code.specs.Bodies.{body_of, fresh_body, seen_from}
use Rattle.cp_code.specs.Properties.{Of, Always, holds}
use Rattle.cp_code.specs.Checks.{OfPred, broken_call, held, broken_exit}
use Rattle.cp_code.specs.Code.{Code, Pred, Rules}
use Rattle.cp_code.specs.Goals.{builtin_goal}
use Rattle.cp_code.specs.Tree.{tree, asks}
use Rattle.cp_code.proofs.Rows.{v, a, n, f1, f2, f3, also, rule, fact, pred, program, main_and, found, no, shared, cuts, expects}
use Prim.Native.String.{String}

-- what `main` asks behind these inputs, and then behind each of those in turn
abbrev asked : Code → (before inputs : List Input) → List Next
asked code before [] = asks code (a "main") before ∷ []
asked code before (i ∷ inputs) = asks code (a "main") before ∷ asked code (before ++ i ∷ []) inputs

-- what `main` asks from first to last with so many units, and at the end what it asks behind all the inputs with one less
abbrev in_full : (ℕ → Code) → (units : ℕ) → List Input → List Next
in_full code zero inputs = []
in_full code (suc less) inputs = asked (code (suc less)) [] inputs ++ asks (code less) (a "main") inputs ∷ []

abbrev body : List Pred → List Cell → ℕ → Code
body others goals units = main_and units others goals

abbrev writes : String → Next
writes text = request.Put (codes text)

abbrev wrote : Input
wrote = input.Put put.Wrote

abbrev replied : Reply → Input
replied r = input.Reply r

abbrev asks_q : Call → Next
asks_q c = request.Ask 2 c

abbrev too_few : Next
too_few = request.End how.Steps

abbrev q : List Cell → List Cell
q x = f1 "q" x

abbrev goals : List (List Cell) → List Cell
goals [] = a "true"
goals (g ∷ []) = g
goals (g ∷ h ∷ gs) = also g (goals (h ∷ gs))

-- main :- t.   main :- write(n), nl.   t :- !, fail.   t.
abbrev two_clauses : ℕ → Code
two_clauses units = program units (pred "main" 0 (Rules [] (rule 0 (a "main") (a "t") ∷ rule 0 (a "main") (goals (f1 "write" (a "n") ∷ a "nl" ∷ [])) ∷ [])) ∷ cuts ∷ [])

-- the cut drops the clauses of t, and not the alternative of its caller
a_cut_keeps_the_alternatives_of_the_caller :
    in_full two_clauses 6 (wrote ∷ wrote ∷ []) ≡ writes "n" ∷ writes "\n" ∷ found ∷ too_few ∷ []
unfolding body_of fresh_body seen_from builtin_goal tree holds broken_call held broken_exit
a_cut_keeps_the_alternatives_of_the_caller = refl

-- and behind that answer there is no other
no_alternative_is_left :
    asks (two_clauses 6) (a "main") (wrote ∷ wrote ∷ input.More ∷ []) ≡ no
unfolding body_of fresh_body seen_from builtin_goal tree holds broken_call held broken_exit
no_alternative_is_left = refl

-- main :- assertz_fact(q(1)), assertz_fact(q(2)), first, retract_fact(q(Y)), !, write(Y), nl.   first :- retract_fact(q(_)), !.
the_first_fact_is_gone :
    in_full (body (shared ∷ pred "first" 0 (Rules [] (rule 1 (a "first") (also (f1 "retract_fact" (q (v 0))) (a "!")) ∷ [])) ∷ [])
    (goals (f1 "assertz_fact" (q (n 1)) ∷ f1 "assertz_fact" (q (n 2)) ∷ a "first" ∷ f1 "retract_fact" (q (v 0)) ∷ a "!" ∷ f1 "write" (v 0) ∷ a "nl" ∷ []))) 10
    (replied (reply.Added (pos 1) []) ∷ replied (reply.Added (pos 2) []) ∷ replied (reply.Found (pos 1) (q (n 1))) ∷ replied (reply.Found (pos 2) (q (n 2))) ∷ wrote ∷ wrote ∷ [])
    ≡ asks_q (call.AddBack (q (n 1))) ∷ asks_q (call.AddBack (q (n 2))) ∷ asks_q (call.Take (q (v 0)) None) ∷ asks_q (call.Take (q (v 0)) None) ∷ writes "2" ∷ writes "\n" ∷ found ∷ too_few ∷ []
unfolding body_of fresh_body seen_from builtin_goal tree holds broken_call held broken_exit digits
the_first_fact_is_gone = refl

-- main :- assertz_fact(q(1)), assertz_fact(q(2)), q(X), X == 2, write(X).
backtracking_finds_the_second_fact :
    in_full (body (shared ∷ []) (goals (f1 "assertz_fact" (q (n 1)) ∷ f1 "assertz_fact" (q (n 2)) ∷ q (v 0) ∷ f2 "==" (v 0) (n 2) ∷ f1 "write" (v 0) ∷ []))) 8
    (replied (reply.Added (pos 1) []) ∷ replied (reply.Added (pos 2) []) ∷ replied (reply.Found (pos 1) (q (n 1))) ∷ replied (reply.Found (pos 2) (q (n 2))) ∷ wrote ∷ [])
    ≡ asks_q (call.AddBack (q (n 1))) ∷ asks_q (call.AddBack (q (n 2))) ∷ asks_q (call.Next (q (v 0)) None) ∷ asks_q (call.Next (q (v 0)) (Some (pos 1))) ∷ writes "2" ∷ found ∷ too_few ∷ []
unfolding body_of fresh_body seen_from builtin_goal tree holds broken_call held broken_exit digits
backtracking_finds_the_second_fact = refl

-- main :- first(X), write(X), fail.   first(X) :- q(X), !.   The question behind the first fact is dropped
a_cut_drops_the_question :
    in_full (body (shared ∷ pred "first" 1 (Rules [] (rule 1 (f1 "first" (v 0)) (also (q (v 0)) (a "!")) ∷ [])) ∷ []) (goals (f1 "first" (v 0) ∷ f1 "write" (v 0) ∷ a "fail" ∷ []))) 6
    (replied (reply.Found (pos 1) (q (n 1))) ∷ wrote ∷ []) ≡ asks_q (call.Next (q (v 0)) None) ∷ writes "1" ∷ no ∷ too_few ∷ []
unfolding body_of fresh_body seen_from builtin_goal tree holds broken_call held broken_exit digits
a_cut_drops_the_question = refl

-- ( G -> write(y) ; write(n) )
abbrev y_or_n : List Cell → List Cell
y_or_n g = f2 ";" (f2 "->" g (f1 "write" (a "y"))) (f1 "write" (a "n"))

-- main :- ( current_fact_nb(q(_)) -> write(y) ; write(n) ), close_predicate(q(_)), close_predicate(q(_)),
--     ( retract_fact(q(_)) -> write(y) ; write(n) ), nl.
a_predicate_is_closed :
    in_full (body (shared ∷ []) (goals (y_or_n (f1 "current_fact_nb" (q (v 0))) ∷ f1 "close_predicate" (q (v 1)) ∷ f1 "close_predicate" (q (v 2)) ∷ y_or_n (f1 "retract_fact" (q (v 3))) ∷ a "nl" ∷ []))) 10
    (replied reply.NoMore ∷ wrote ∷ replied (reply.Closed []) ∷ replied (reply.Closed []) ∷ replied reply.NoMore ∷ wrote ∷ wrote ∷ [])
    ≡ asks_q (call.NextNb (q (v 0)) None) ∷ writes "n" ∷ asks_q call.Close ∷ asks_q call.Close ∷ asks_q (call.Take (q (v 0)) None) ∷ writes "n" ∷ writes "\n" ∷ found ∷ too_few ∷ []
unfolding body_of fresh_body seen_from builtin_goal tree holds broken_call held broken_exit
a_predicate_is_closed = refl

-- main :- X is - 1 - -2*3, write(X), nl.
minus_signs_are_counted :
    in_full (body [] (goals (f2 "is" (v 0) (f2 "-" (f1 "-" (n 1)) (f2 "*" (Int (negsuc 1) ∷ []) (n 3))) ∷ f1 "write" (v 0) ∷ a "nl" ∷ []))) 4 (wrote ∷ wrote ∷ [])
    ≡ writes "5" ∷ writes "\n" ∷ found ∷ too_few ∷ []
unfolding body_of fresh_body seen_from builtin_goal tree holds broken_call held broken_exit digits
minus_signs_are_counted = refl

-- main :- writeq(- 1), nl, writeq(-(-1)), nl, writeq(1 - (2 - 3)), nl.
minus_signs_are_written :
    in_full (body [] (goals (f1 "writeq" (f1 "-" (n 1)) ∷ a "nl" ∷ f1 "writeq" (f1 "-" (Int (negsuc 0) ∷ [])) ∷ a "nl" ∷ f1 "writeq" (f2 "-" (n 1) (f2 "-" (n 2) (n 3))) ∷ a "nl" ∷ []))) 7
    (wrote ∷ wrote ∷ wrote ∷ wrote ∷ wrote ∷ wrote ∷ [])
    ≡ writes "- 1" ∷ writes "\n" ∷ writes "- -1" ∷ writes "\n" ∷ writes "1-(2-3)" ∷ writes "\n" ∷ found ∷ too_few ∷ []
unfolding body_of fresh_body seen_from builtin_goal tree holds broken_call held broken_exit digits
minus_signs_are_written = refl

-- main :- catch((true ; throw(a)), a, write(caught)), fail.
a_catch_is_met_again :
    in_full (body [] (also (f3 "catch" (f2 ";" (a "true") (f1 "throw" (a "a"))) (a "a") (f1 "write" (a "caught"))) (a "fail"))) 8 (wrote ∷ [])
    ≡ writes "caught" ∷ no ∷ too_few ∷ []
unfolding body_of fresh_body seen_from builtin_goal tree holds broken_call held broken_exit
a_catch_is_met_again = refl

-- main :- catch(eng_call(true, create, create, _), error(E, _), (write(E), nl)).
too_many_goals_are_told :
    in_full (body [] (f3 "catch" (Func (codes "eng_call") 4 ∷ a "true" ++ a "create" ++ a "create" ++ v 0) (f2 "error" (v 1) (v 2)) (also (f1 "write" (v 1)) (a "nl")))) 5
    (replied (reply.Full full.Posts 4096) ∷ wrote ∷ wrote ∷ [])
    ≡ request.Ask 0 (call.AddBack (f2 ":" (a "m") (a "true"))) ∷ writes "resource_error(goals)" ∷ writes "\n" ∷ found ∷ too_few ∷ []
unfolding body_of fresh_body seen_from builtin_goal tree holds broken_call held broken_exit
too_many_goals_are_told = refl

-- :- pred r(X) => int(X).   r(1).   r(b).
abbrev promised : Pred
promised = pred "r" 1 (Rules (record { number = 1; kind = OfPred; before = Always; after = Of (codes "int") 0 } ∷ []) (fact 0 (f1 "r" (n 1)) ∷ fact 0 (f1 "r" (a "b")) ∷ []))

-- main :- r(X), write(X), nl, fail.
the_second_exit_breaks_the_promise :
    in_full (body (promised ∷ []) (goals (f1 "r" (v 0) ∷ f1 "write" (v 0) ∷ a "nl" ∷ a "fail" ∷ []))) 5 (wrote ∷ wrote ∷ [])
    ≡ writes "1" ∷ writes "\n" ∷ request.End (how.Ball (f3 "rtcheck" (a "success") (context (codes "m") (codes "r") 1) (n 1))) ∷ too_few ∷ []
unfolding body_of fresh_body seen_from builtin_goal tree holds broken_call held broken_exit digits
the_second_exit_breaks_the_promise = refl

-- :- regtype color/1.   color(red).   :- pred p(X) : color(X).   p(_).   main :- p(C), write(ok), nl.
abbrev coloured : List Cell → ℕ → Code
coloured color units = record (body (pred "p" 1 (Rules (expects 1 "color" ∷ []) (fact 1 (f1 "p" (v 0)) ∷ [])) ∷ []) (goals (f1 "p" color ∷ f1 "write" (a "ok") ∷ a "nl" ∷ [])) units) {
  types = record { name = codes "color"; clauses = f1 "color" (a "red") ∷ [] } ∷ [];
}

-- with C red
a_regular_type_is_demanded :
    in_full (coloured (a "red")) 4 (wrote ∷ wrote ∷ []) ≡ writes "ok" ∷ writes "\n" ∷ found ∷ too_few ∷ []
unfolding body_of fresh_body seen_from builtin_goal tree holds broken_call held broken_exit
a_regular_type_is_demanded = refl

-- with C blue
another_color_breaks_the_demand :
    in_full (coloured (a "blue")) 2 [] ≡ request.End (how.Ball (f3 "rtcheck" (a "calls") (context (codes "m") (codes "p") 1) (n 1))) ∷ too_few ∷ []
unfolding body_of fresh_body seen_from builtin_goal tree holds broken_call held broken_exit
another_color_breaks_the_demand = refl
