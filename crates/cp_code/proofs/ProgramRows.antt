-- Programs as their goals see them, on worked examples.
use Rattle.std.proofs.Common.{◌≡◌, refl, ℕ, List, [], ◌∷◌, pos, true, false}
use Rattle.std.specs.Prelude.{Bool, codes, Option, Some, None}
use Prim.Native.String.{String}
use Rattle.cp_term.specs.declared.cell.Cell.{Cell}
use Rattle.cp_term.specs.declared.cell.Cell.TheVariants.{Var, Int}
use Rattle.cp_term.specs.declared.pred_name.PredName.{PredName}
use Rattle.cp_goal.specs.Errors.{word, with_one, with_two}
use Rattle.cp_goal.specs.Lists.{list_term}
use Rattle.cp_ops.specs.Standard.{standard}
use Rattle.cp_call.specs.declared.item.How.TheVariants as how
use Rattle.cp_call.specs.declared.item.Next.TheVariants as request
use Rattle.cp_code.specs.declared.assertion.Assertion.{Assertion}
use Rattle.cp_code.specs.declared.clause.Clause.{Clause}
use Rattle.cp_code.specs.declared.import.Import.{Import}
use Rattle.cp_code.specs.declared.kind.Kind.TheVariants as kind
use Rattle.cp_code.specs.declared.pred_info.PredInfo.{PredInfo}
use Rattle.cp_code.specs.declared.pred_kind.PredKind.{PredKind}
use Rattle.cp_code.specs.declared.pred_kind.PredKind.TheVariants as pred_kind
use Rattle.cp_code.specs.declared.program.Program.{Program}
use Rattle.cp_code.specs.declared.prop.Prop.TheVariants as prop
use Rattle.cp_code.specs.declared.status.Status.TheVariants as status
use Rattle.cp_code.specs.Bodies.{body_of, fresh_body, seen_from}
use Rattle.cp_code.specs.Properties.{TypeRow, has, holds}
use Rattle.cp_code.specs.Checks.{broken_call, held, broken_exit}
use Rattle.cp_code.specs.Goals.{builtin_goal}
use Rattle.cp_code.specs.Programs.{sees, code_of, parts_of}
use Rattle.cp_code.specs.Tree.{tree, asks, check_ball}

abbrev named : String → String → ℕ → PredName
named seer name arity = record { «module» = codes seer; name = codes name; arity = arity }

abbrev clause : String → List Cell → Clause
clause seer whole = record { whole = whole; «module» = codes seer; line = 1 }

abbrev pred : String → String → ℕ → PredKind → List Clause → PredInfo
pred seer name arity kind clauses = record { name = named seer name arity; clauses = clauses; kind = kind; goals = [] }

abbrev program : List PredInfo → List PredName → List Import → List Assertion → Program
program preds shared imports checks = record {
  first = codes "m";
  preds = preds;
  shared = shared;
  exports = [];
  peers = [];
  types = [];
  checks = checks;
  modules = codes "m" ∷ [];
  ops = standard ∷ [];
  imports = imports;
  written = 3;
}

abbrev rule : List Cell → List Cell → List Cell
rule head body = with_two (codes ":-") head body

abbrev main : List Cell
main = word (codes "main")

abbrev p_of : List Cell → List Cell
p_of x = with_one (codes "p") x

abbrev one : List Cell
one = Int (pos 1) ∷ []

-- main :- m:p(1).   p(1).
abbrev small : Program
small = program
    (pred "m" "main" 0 pred_kind.Rules (clause "m" (rule main (with_two (codes ":") (word (codes "m")) (p_of one))) ∷ [])
    ∷ pred "m" "p" 1 pred_kind.Rules (clause "m" (p_of one) ∷ []) ∷ [])
    [] [] []

a_fact_costs_nothing : asks (code_of small 2) main [] ≡ request.Answer main
unfolding body_of fresh_body seen_from builtin_goal tree holds broken_call held broken_exit
a_fact_costs_nothing = refl

one_unit_is_not_enough : asks (code_of small 1) main [] ≡ request.End how.Steps
unfolding body_of fresh_body seen_from builtin_goal tree holds broken_call held broken_exit
one_unit_is_not_enough = refl

-- :- calls p(X) : atm(X).
abbrev on_p : Assertion
on_p = record { pred = named "m" "p" 1; number = 1; kind = kind.Calls; status = status.Check; before = prop.Of (codes "atm") 0; after = prop.Always; line = 1 }

abbrev asserted : List Assertion → Program
asserted checks = record small { checks = checks }

a_call_breaks_its_demand : asks (code_of (asserted (on_p ∷ [])) 2) main [] ≡ request.End (how.Ball (check_ball (codes "calls") (named "m" "p" 1) 1))
unfolding body_of fresh_body seen_from builtin_goal tree holds broken_call held broken_exit
a_call_breaks_its_demand = refl

-- the unit of the call is charged before its demand is tested
a_call_without_a_unit_breaks_no_demand : asks (code_of (asserted (on_p ∷ [])) 1) main [] ≡ request.End how.Steps
unfolding body_of fresh_body seen_from builtin_goal tree holds broken_call held broken_exit
a_call_without_a_unit_breaks_no_demand = refl

-- :- pred p(X) : atm(X).
a_call_breaks_its_precondition : asks (code_of (asserted (record on_p { kind = kind.Pred } ∷ [])) 2) main [] ≡ request.End (how.Ball (check_ball (codes "calls") (named "m" "p" 1) 1))
unfolding body_of fresh_body seen_from builtin_goal tree holds broken_call held broken_exit
a_call_breaks_its_precondition = refl

-- with `:- pred p(X) : int(X).` beside it one of the two is met
a_precondition_of_two_is_met :
    asks (code_of (asserted (record on_p { kind = kind.Pred } ∷ record on_p { kind = kind.Pred; number = 2; before = prop.Of (codes "int") 0 } ∷ [])) 2) main [] ≡ request.Answer main
unfolding body_of fresh_body seen_from builtin_goal tree holds broken_call held broken_exit
a_precondition_of_two_is_met = refl

-- :- calls p(X) : int(X).   :- calls p(X) : var(X).   :- calls p(X) : atm(X).   The last two are broken.
the_least_of_two_broken_demands_is_thrown :
    asks (code_of (asserted (record on_p { before = prop.Of (codes "int") 0 } ∷ record on_p { number = 2; before = prop.Of (codes "var") 0 } ∷ record on_p { number = 3 } ∷ [])) 2) main []
    ≡ request.End (how.Ball (check_ball (codes "calls") (named "m" "p" 1) 2))
unfolding body_of fresh_body seen_from builtin_goal tree holds broken_call held broken_exit
the_least_of_two_broken_demands_is_thrown = refl

-- :- success p(X) => atm(X).
an_exit_breaks_its_promise :
    asks (code_of (asserted (record on_p { kind = kind.Success; before = prop.Always; after = prop.Of (codes "atm") 0 } ∷ [])) 2) main []
    ≡ request.End (how.Ball (check_ball (codes "success") (named "m" "p" 1) 1))
unfolding body_of fresh_body seen_from builtin_goal tree holds broken_call held broken_exit
an_exit_breaks_its_promise = refl

-- one that is trusted, one of the computation, and one of another module's p
other_assertions_are_not_tested :
    asks (code_of (asserted (record on_p { status = status.Trust } ∷ record on_p { kind = kind.Comp } ∷ record on_p { pred = named "b" "p" 1 } ∷ [])) 2) main []
    ≡ request.Answer main
unfolding body_of fresh_body seen_from builtin_goal tree holds broken_call held broken_exit
other_assertions_are_not_tested = refl

-- ---- what a module sees

-- m imports b:q/1; both m and the prelude have append/3
abbrev several : List PredInfo
several =
    pred "prelude" "append" 3 pred_kind.Rules [] ∷ pred "prelude" "len" 3 pred_kind.Rules [] ∷ pred "prelude" "member" 2 pred_kind.Rules []
    ∷ pred "m" "append" 3 pred_kind.Rules [] ∷ pred "b" "q" 1 pred_kind.Rules [] ∷ pred "b" "member" 2 pred_kind.Rules [] ∷ []

abbrev imported : List Import
imported = record { seer = codes "m"; pred = named "b" "q" 1 } ∷ record { seer = codes "m"; pred = named "b" "member" 2 } ∷ []

abbrev sight : String → String → ℕ → Option ℕ
sight seer name arity = sees several imported (codes seer) (codes name) arity

its_own_goes_first : sight "m" "append" 3 ≡ Some 3
its_own_goes_first = refl

an_imported_one_goes_before_the_prelude : sight "m" "member" 2 ≡ Some 5
an_imported_one_goes_before_the_prelude = refl

an_import_is_seen_by_its_module : sight "m" "q" 1 ≡ Some 4
an_import_is_seen_by_its_module = refl

an_import_is_seen_by_no_other : sight "c" "q" 1 ≡ None
an_import_is_seen_by_no_other = refl

the_prelude_is_seen_everywhere : sight "c" "append" 3 ≡ Some 0
the_prelude_is_seen_everywhere = refl

what_the_prelude_keeps_is_not : sight "c" "len" 3 ≡ None
what_the_prelude_keeps_is_not = refl

the_prelude_sees_it : sight "prelude" "len" 3 ≡ Some 1
the_prelude_sees_it = refl

-- ---- shared predicates

-- :- data q/1.   q(1) :- true.   q(2).
abbrev shared : Program
shared = program
    (pred "m" "q" 1 (pred_kind.Plain 2) (clause "m" (rule (with_one (codes "q") one) (word (codes "true"))) ∷ clause "m" (with_one (codes "q") (Int (pos 2) ∷ [])) ∷ []) ∷ [])
    (named "m" "q" 1 ∷ []) [] []

opening_facts_are_heads :
    (parts_of shared).shared ≡ record { name = named "m" "q" 1; is_data = true; opening = with_one (codes "q") one ∷ with_one (codes "q") (Int (pos 2) ∷ []) ∷ [] } ∷ []
opening_facts_are_heads = refl

-- ---- regular types

abbrev zero_term : List Cell
zero_term = word (codes "z")

abbrev next_term : List Cell → List Cell
next_term t = with_one (codes "s") t

abbrev of_type : String → List Cell → List Cell
of_type name t = with_two (codes ":") (word (codes "m")) (with_one (codes name) t)

abbrev x : List Cell
x = Var 0 ∷ []

-- natural(z).   natural(s(X)) :- natural(X).   count(X) :- natural(X).   counts(L) :- list(L, count).   round(X) :- turn(X).   turn(X) :- round(X).
abbrev number_types : List TypeRow
number_types =
    record { name = codes "natural"; clauses = with_one (codes "natural") zero_term ∷ rule (with_one (codes "natural") (next_term x)) (of_type "natural" x) ∷ [] }
    ∷ record { name = codes "count"; clauses = rule (with_one (codes "count") x) (of_type "natural" x) ∷ [] }
    ∷ record { name = codes "counts"; clauses = rule (with_one (codes "counts") x) (with_two (codes ":") (word (codes "m")) (with_two (codes "list") x (word (codes "count")))) ∷ [] }
    ∷ record { name = codes "round"; clauses = rule (with_one (codes "round") x) (of_type "turn" x) ∷ [] }
    ∷ record { name = codes "turn"; clauses = rule (with_one (codes "turn") x) (of_type "round" x) ∷ [] }
    ∷ record { name = codes "any"; clauses = rule (with_one (codes "any") x) (of_type "term" x) ∷ [] } ∷ []

abbrev is_of : String → List Cell → Bool
is_of name t = has number_types (codes name) t

a_number_is_one : is_of "natural" (next_term (next_term zero_term)) ≡ true
unfolding seen_from
a_number_is_one = refl

what_is_no_number_is_none : is_of "natural" (next_term one) ≡ false
unfolding seen_from
what_is_no_number_is_none = refl

a_variable_has_no_type : is_of "natural" x ≡ false
unfolding seen_from
a_variable_has_no_type = refl

-- not even where the clauses of the type say nothing against it
a_variable_has_no_type_at_all : is_of "any" x ≡ false
unfolding seen_from
a_variable_has_no_type_at_all = refl

every_other_term_has_this_one : is_of "any" one ≡ true
unfolding seen_from
every_other_term_has_this_one = refl

a_type_is_another_one : is_of "count" (next_term zero_term) ≡ true
unfolding seen_from
a_type_is_another_one = refl

each_element_has_the_type : is_of "counts" (list_term (zero_term ∷ next_term zero_term ∷ [])) ≡ true
unfolding seen_from
each_element_has_the_type = refl

an_element_without_the_type : is_of "counts" (list_term (zero_term ∷ one ∷ [])) ≡ false
unfolding seen_from
an_element_without_the_type = refl

a_list_with_an_open_end_is_none : is_of "counts" (with_two (codes ".") zero_term x) ≡ false
unfolding seen_from
a_list_with_an_open_end_is_none = refl

types_that_lead_to_each_other_hold_of_nothing : is_of "round" zero_term ≡ false
unfolding seen_from
types_that_lead_to_each_other_hold_of_nothing = refl
