-- Each of the checks of a list speaks of arguments that there are.
use Rattle.std.proofs.Common.{◌≡◌, ℕ, ◌<◌, Bool, true, false, not, cond, ◌&&◌, List, [], ◌∷◌, length, map, get_or, refl, sym, ◌∙◌, ap, subst, arith}
use Rattle.std.specs.Prelude.{Option, Some, None, IfSome}
use Rattle.std.specs.List.{filter_map, cons_option}
use Rattle.std.proofs.lemmas.Bool.{and_parts}
use Rattle.std.proofs.lemmas.List.{length-map}
use Rattle.std.proofs.lemmas.List.Elements.{All-nil, All-same, All-cons, All-head, All-tail}
use Rattle.cp_term.specs.declared.cell.Cell.{Cell}
use Rattle.std.proofs.Math.ListN.{get_or-map}
use Rattle.cp_code.specs.Checks as tests
use Rattle.cp_term.specs.declared.pred_name.PredName.{PredName}
use Rattle.cp_term.specs.PredNameEq.{pred_name_eq, pred_name_eq-true}
use Rattle.cp_code.specs.declared.assertion.Assertion.{Assertion}
use Rattle.cp_code.specs.Programs.{prop_of, tested_kind, is_check, check_of_kind, check_on}
use Rattle.cp_code.specs.Properties.{TypeRow, holds}
use Rattle.cp_props.specs.declared.check.Check.{Check}
use Rattle.cp_props.specs.Arguments.{HasArguments, HaveArguments, NameArguments}
use Rattle.cp_props.specs.Checks.{check_shown}

pub named_at : (n : ℕ) (checks items : List Check) (i : ℕ) (c : Check) → items ≡ checks → HaveArguments n (map check_shown checks) → i < length items → c ≡ get_or items i c
    → HasArguments n (prop_of c.before) × HasArguments n (prop_of c.after)
named_at n checks items i c same all lt is =
    let there : i < length (map check_shown checks) = omega (arith, ap length same, length-map checks check_shown) in
    let here : get_or (map check_shown checks) i (check_shown c) ≡ check_shown c =
    get_or-map check_shown checks i c ∙ ap (λ xs. check_shown (get_or xs i c)) (sym same) ∙ ap check_shown (sym is) in
    subst (λ (d : tests.Check). HasArguments n d.before × HasArguments n d.after) here (all i (check_shown c) there)

HasBoth : ℕ → tests.Check → Type 0
HasBoth n c = HasArguments n c.before × HasArguments n c.after

pub same_named : (n : ℕ) (xs ys : List tests.Check) → xs ≡ ys → HaveArguments n ys → HaveArguments n xs
unfolding HasBoth
same_named n xs ys e all = All-same (HasBoth n) xs ys e all

chosen : (n : ℕ) (b : Bool) (c : tests.Check) (xs : List tests.Check) → HasBoth n c → HaveArguments n xs → HaveArguments n (cond b (c ∷ xs) xs)
unfolding HasBoth
chosen n true c xs one all = All-cons (HasBoth n) c xs one all
chosen n false c xs one all = all

-- and so do those that are held
pub held_named : (n : ℕ) (types : List TypeRow) (checks : List tests.Check) (args : List (List Cell)) → HaveArguments n checks → HaveArguments n (tests.held types checks args)
unfolding tests.held HasBoth
held_named n types [] args all = all
held_named n types (c ∷ checks) args all =
    chosen n (not (tests.is_calls c.kind) && holds types c.before args) c (tests.held types checks args)
    (All-head (HasBoth n) c checks all)
    (held_named n types checks args (All-tail (HasBoth n) c checks all))

-- ---- the checks of a predicate

NamesArguments : Assertion → Type 0
NamesArguments a = HasArguments a.pred.arity (prop_of a.before) × HasArguments a.pred.arity (prop_of a.after)

option_named : (n : ℕ) (o : Option tests.Check) (xs : List tests.Check) → IfSome o (HasBoth n) → HaveArguments n xs → HaveArguments n (cons_option o xs)
unfolding HasBoth
option_named n None xs one all = all
option_named n (Some c) xs one all = All-cons (HasBoth n) c xs one all

kind_named : (n : ℕ) (a : Assertion) (k : Option tests.Kind) → HasArguments n (prop_of a.before) × HasArguments n (prop_of a.after) → IfSome (check_of_kind a k) (HasBoth n)
unfolding HasBoth
kind_named n a None named = tt
kind_named n a (Some k) named = named

check_named : (p : PredName) (a : Assertion) → NamesArguments a → IfSome (check_on p a) (HasBoth p.arity)
unfolding NamesArguments
check_named p a named =
    elim (is_check a.status && pred_name_eq a.pred p) as (λ b. is_check a.status && pred_name_eq a.pred p ≡ b → IfSome (cond b (check_of_kind a (tested_kind a.kind)) None) (HasBoth p.arity)) [
      | true ↦ λ e.
          let same : a.pred ≡ p = pred_name_eq-true a.pred p (and_parts (is_check a.status) (pred_name_eq a.pred p) e).1 in
          kind_named p.arity a (tested_kind a.kind) (subst (λ (q : PredName). HasArguments q.arity (prop_of a.before) × HasArguments q.arity (prop_of a.after)) same named)
      | false ↦ λ e. tt
    ] refl

pub checks_named : (p : PredName) (assertions : List Assertion) → NameArguments assertions → HaveArguments p.arity (filter_map (check_on p) assertions)
unfolding NamesArguments HasBoth
checks_named p [] all = All-nil (HasBoth p.arity)
checks_named p (a ∷ assertions) all =
    option_named p.arity (check_on p a) (filter_map (check_on p) assertions)
    (check_named p a (All-head NamesArguments a assertions all))
    (checks_named p assertions (All-tail NamesArguments a assertions all))
