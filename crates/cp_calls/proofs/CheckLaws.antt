-- Checks speak of arguments that there are.
use Rattle.std.proofs.Common.{◌≡◌, ℕ, ◌<◌, ◌≤◌, Bool, true, false, cond, Some, None, Option, List, [], ◌∷◌, refl, subst, arith}
use Rattle.std.specs.Prelude.{◌&&◌}
use Rattle.std.proofs.lemmas.Bool.{false≢true}
use Rattle.std.specs.List.{filter_map, cons_option}
use Rattle.std.proofs.lemmas.List.Elements.{All-cons, All-nil}
use Rattle.cp_term.specs.declared.pred_name.PredName.{PredName}
use Rattle.cp_term.specs.PredNameEq.{pred_name_eq, pred_name_eq-true}
use Rattle.cp_code.specs.declared.assertion.Assertion.{Assertion}
use Rattle.cp_code.specs.Checks as tests
use Rattle.cp_code.specs.Properties.{Prop, Of, ListOf, Both, Either, Always}
use Rattle.cp_code.specs.Programs.{prop_of, is_check, tested_kind, check_of_kind, check_on}
use Rattle.cp_props.specs.Arguments.{HasArguments, HaveArguments}
use Rattle.cp_calls.specs.Goals.{HasGoodCheck, AreGoodChecks}

IsGood : ℕ → tests.Check → Type 0
IsGood n c = HasArguments n c.before × HasArguments n c.after

-- more arguments are enough
more-prop : (m n : ℕ) (p : Prop) → m ≤ n → HasArguments m p → HasArguments n p
more-prop m n (Of name k) le h = let lt : k < m = h in omega arith
more-prop m n (ListOf name k) le h = let lt : k < m = h in omega arith
more-prop m n (Both p q) le h = (more-prop m n p le h.0, more-prop m n q le h.1)
more-prop m n (Either p q) le h = (more-prop m n p le h.0, more-prop m n q le h.1)
more-prop m n Always le h = tt

pub more-arguments : (m n : ℕ) (cs : List tests.Check) → m ≤ n → HaveArguments m cs → HaveArguments n cs
more-arguments m n cs le all k d lt = (more-prop m n _ le (all k d lt).0, more-prop m n _ le (all k d lt).1)

-- ---- the checks of a predicate

kind-arguments : (a : Assertion) (o : Option tests.Kind) (n : ℕ) (cs : List tests.Check) → HasArguments n (prop_of a.before) × HasArguments n (prop_of a.after) → HaveArguments n cs
    → HaveArguments n (cons_option (check_of_kind a o) cs)
unfolding IsGood
kind-arguments a None n cs h all = all
kind-arguments a (Some k) n cs h all = All-cons (IsGood n) (record { number = a.number; kind = k; before = prop_of a.before; after = prop_of a.after }) cs h all

and-both : (a b : Bool) → a && b ≡ true → b ≡ true
and-both true b h = h
and-both false b h = absurd (false≢true h)

on-arguments : (a : Assertion) (p : PredName) (cs : List tests.Check) (b : Bool) → (b ≡ true → pred_name_eq a.pred p ≡ true) → HasGoodCheck a → HaveArguments p.arity cs
    → HaveArguments p.arity (cons_option (cond b (check_of_kind a (tested_kind a.kind)) None) cs)
on-arguments a p cs true same good all =
    let e : a.pred ≡ p = pred_name_eq-true a.pred p (same refl) in
    let P : PredName → Type 0 = λ q. HasArguments q.arity (prop_of a.before) × HasArguments q.arity (prop_of a.after) in
    kind-arguments a (tested_kind a.kind) p.arity cs (subst P e good) all
on-arguments a p cs false same good all = all

pub good-checks : (rows : List Assertion) (p : PredName) → AreGoodChecks rows → HaveArguments p.arity (filter_map (check_on p) rows)
unfolding IsGood
good-checks [] p good = All-nil (IsGood p.arity)
good-checks (a ∷ more) p good =
    on-arguments a p (filter_map (check_on p) more) (is_check a.status && pred_name_eq a.pred p) (λ h. and-both (is_check a.status) (pred_name_eq a.pred p) h) good.0 (good-checks more p good.1)
