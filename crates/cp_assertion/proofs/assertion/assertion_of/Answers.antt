use Rattle.std.proofs.Common.{◌≡◌, ℕ, List, IfOk, rules, sym, ◌∙◌, ap}
use Rattle.std.specs.Prelude.{Result, Ok, Err}
use Rattle.cp_term.specs.declared.pred_name.PredName.{PredName}
use Rattle.cp_code.specs.declared.assertion.Assertion.{Assertion}
use Rattle.cp_assertion.specs.declared.assertion_error.AssertionError.{AssertionError}
use Rattle.cp_assertion.specs.Assertions.{checks_of, number_after, IsPlaced, IsPlacedAmong}
use Rattle.cp_assertion.proofs.assertion.assertion_of.Goals as goal

weaker : (r : Result Assertion AssertionError) (P Q : Assertion → Type 0) → ((a : Assertion) → P a → Q a) → IfOk r P → IfOk r Q
weaker (Ok a) P Q f h = f a h
weaker (Err e) P Q f h = tt

among : (p : PredName) (m : List ℕ) (line earlier : ℕ) (checks : List Assertion) → p.module ≡ m → earlier ≡ checks_of p checks
    → (a : Assertion) → IsPlaced p line earlier a → IsPlacedAmong m line checks a
among p m line earlier checks here count a h = record {
  module_is = ap (λ (q : PredName). q.module) h.pred_is ∙ here;
  line_is = h.line_is;
  number_is = h.number_is ∙ ap (number_after a.status) (count ∙ ap (λ (q : PredName). checks_of q checks) (sym h.pred_is));
}

pub returns-clause-placed : goal.returns-clause-placed
returns-clause-placed c =
    let checks = c.args.program.now.checks in
    let p : PredName = record { «module» = c.in_ok-clone.field-0; name = c.in_ok-draft.draft.name; arity = c.in_ok-draft.draft.arity } in
    let copied : c.in_ok-clone.field-0 ≡ c.args.module.now = search rules in
    weaker c.settled.result (IsPlaced p c.args.line c.checks_of-earlier.result) (IsPlacedAmong c.args.module.now c.args.line checks)
    (among p c.args.module.now c.args.line c.checks_of-earlier.result checks copied
    (c.checks_of-earlier.ensures ∙ ap (λ (m : List ℕ). checks_of (record { «module» = m; name = c.in_ok-draft.draft.name; arity = c.in_ok-draft.draft.arity }) checks) (sym copied)))
    c.settled.ensures.placed
