use Rattle.std.proofs.Common.{rules, ◌≡◌, ◌∷◌, Some, None, arith, sym, subst, ◌∙◌, ap, to_z, of_z, w64}
use Rattle.std.specs.Prelude.{ℤ}
use Rattle.std.proofs.lemmas.Int.{to_z-of_z}
use Rattle.cp_call.specs.Object.{callers_of, woken_by}
use Rattle.cp_counted.specs.Keys.{term_key}
use Rattle.cp_keyed.specs.Index.{AreAscending, tried}
use Rattle.cp_factindex.specs.declared.waiter.Waiter.{Waiter}
use Rattle.cp_factindex.specs.Contents.{parked_in}
use Rattle.cp_factindex.specs.Steps.{steps_to_wake}
use Rattle.cp_factindex.specs.Waiting.{waiter_key}
use Rattle.cp_factindex.proofs.Collecting.{spots_in, next_tried, none_tried, agrees_tried, gathers, passes, gathered_all, fewest}
use Rattle.cp_factindex.proofs.Wakened.{wakes_at, wakes_at_most, called, passed_over, steps_left, all_called, woken}
use Rattle.cp_factindex.proofs.waking.wakes_by.Goals as goal

pub returns-in_err-number-clause-steps : goal.returns-in_err-number-clause-steps
returns-in_err-number-clause-steps g c =
    wakes_at_most c.args.fact.now c.args.waiting.now.rows c.rows.steps c.args.steps.now (fewest c.rows.steps (steps_to_wake c.args.fact.now (parked_in (tried waiter_key (term_key c.args.fact.now.fact) c.rows.cursor c.args.waiting.now.rows))) _ c.rows.invariant.steps)

pub returns-in_err-sees_fact-clause-steps : goal.returns-in_err-sees_fact-clause-steps
returns-in_err-sees_fact-clause-steps g c =
    let q = to_z w64 (of_z w64 c.in-Some.number) in
    let e : ℤ × Waiter = (q, c.in-Some.waiter.now) in
    let next : (tried waiter_key (term_key c.args.fact.now.fact) c.rows.cursor c.args.waiting.now.rows) ≡ e ∷ (tried waiter_key (term_key c.args.fact.now.fact) (Some q) c.args.waiting.now.rows) = next_tried waiter_key c.args.key.now (term_key c.args.fact.now.fact) c.args.waiting.now.whole c.args.waiting.now.rows c.requires.key c.requires.whole c.rows.cursor c.in-Some.number q c.in-Some.waiter.now
    (to_z-of_z w64 c.in-Some.number (search rules)) (rw c.in-Some.is at c.in_ok-number.ensures.found) in
    let agree = agrees_tried waiter_key c.args.key.now (term_key c.args.fact.now.fact) c.args.waiting.now.whole c.args.waiting.now.rows c.requires.key c.requires.whole c.rows.cursor q c.in-Some.waiter.now (tried waiter_key (term_key c.args.fact.now.fact) (Some q) c.args.waiting.now.rows) next in
    let stepped = steps_left c.args.fact.now (tried waiter_key (term_key c.args.fact.now.fact) c.rows.cursor c.args.waiting.now.rows) (tried waiter_key (term_key c.args.fact.now.fact) (Some q) c.args.waiting.now.rows) e next c.rows.steps _ c.sees_fact.new.steps c.sees_fact.ensures.steps agree c.rows.invariant.steps in
    wakes_at_most c.args.fact.now c.args.waiting.now.rows c.sees_fact.new.steps c.args.steps.now (fewest c.sees_fact.new.steps (steps_to_wake c.args.fact.now (parked_in (tried waiter_key (term_key c.args.fact.now.fact) (Some q) c.args.waiting.now.rows))) _ stepped)

pub returns-in_err-push-clause-steps : goal.returns-in_err-push-clause-steps
returns-in_err-push-clause-steps g c =
    let q = to_z w64 (of_z w64 c.in-Some.number) in
    let e : ℤ × Waiter = (q, c.in-Some.waiter.now) in
    let next : (tried waiter_key (term_key c.args.fact.now.fact) c.rows.cursor c.args.waiting.now.rows) ≡ e ∷ (tried waiter_key (term_key c.args.fact.now.fact) (Some q) c.args.waiting.now.rows) = next_tried waiter_key c.args.key.now (term_key c.args.fact.now.fact) c.args.waiting.now.whole c.args.waiting.now.rows c.requires.key c.requires.whole c.rows.cursor c.in-Some.number q c.in-Some.waiter.now
    (to_z-of_z w64 c.in-Some.number (search rules)) (rw c.in-Some.is at c.in_ok-number.ensures.found) in
    let agree = agrees_tried waiter_key c.args.key.now (term_key c.args.fact.now.fact) c.args.waiting.now.whole c.args.waiting.now.rows c.requires.key c.requires.whole c.rows.cursor q c.in-Some.waiter.now (tried waiter_key (term_key c.args.fact.now.fact) (Some q) c.args.waiting.now.rows) next in
    let stepped = steps_left c.args.fact.now (tried waiter_key (term_key c.args.fact.now.fact) c.rows.cursor c.args.waiting.now.rows) (tried waiter_key (term_key c.args.fact.now.fact) (Some q) c.args.waiting.now.rows) e next c.rows.steps _ c.sees_fact.new.steps c.sees_fact.ensures.steps agree c.rows.invariant.steps in
    wakes_at_most c.args.fact.now c.args.waiting.now.rows c.sees_fact.new.steps c.args.steps.now (fewest c.sees_fact.new.steps (steps_to_wake c.args.fact.now (parked_in (tried waiter_key (term_key c.args.fact.now.fact) (Some q) c.args.waiting.now.rows))) _ stepped)

pub returns-in_err-key-clause-steps : goal.returns-in_err-key-clause-steps
returns-in_err-key-clause-steps g c =
    let q = to_z w64 (of_z w64 c.in-Some.number) in
    let e : ℤ × Waiter = (q, c.in-Some.waiter.now) in
    let next : (tried waiter_key (term_key c.args.fact.now.fact) c.rows.cursor c.args.waiting.now.rows) ≡ e ∷ (tried waiter_key (term_key c.args.fact.now.fact) (Some q) c.args.waiting.now.rows) = next_tried waiter_key c.args.key.now (term_key c.args.fact.now.fact) c.args.waiting.now.whole c.args.waiting.now.rows c.requires.key c.requires.whole c.rows.cursor c.in-Some.number q c.in-Some.waiter.now
    (to_z-of_z w64 c.in-Some.number (search rules)) (rw c.in-Some.is at c.in_ok-number.ensures.found) in
    let agree = agrees_tried waiter_key c.args.key.now (term_key c.args.fact.now.fact) c.args.waiting.now.whole c.args.waiting.now.rows c.requires.key c.requires.whole c.rows.cursor q c.in-Some.waiter.now (tried waiter_key (term_key c.args.fact.now.fact) (Some q) c.args.waiting.now.rows) next in
    let stepped = steps_left c.args.fact.now (tried waiter_key (term_key c.args.fact.now.fact) c.rows.cursor c.args.waiting.now.rows) (tried waiter_key (term_key c.args.fact.now.fact) (Some q) c.args.waiting.now.rows) e next c.rows.steps _ c.sees_fact.new.steps c.sees_fact.ensures.steps agree c.rows.invariant.steps in
    wakes_at_most c.args.fact.now c.args.waiting.now.rows c.sees_fact.new.steps c.args.steps.now (fewest c.sees_fact.new.steps (steps_to_wake c.args.fact.now (parked_in (tried waiter_key (term_key c.args.fact.now.fact) (Some q) c.args.waiting.now.rows))) _ stepped)

pub returns-in_err-push-2-clause-steps : goal.returns-in_err-push-2-clause-steps
returns-in_err-push-2-clause-steps g c =
    let q = to_z w64 (of_z w64 c.in-Some.number) in
    let e : ℤ × Waiter = (q, c.in-Some.waiter.now) in
    let next : (tried waiter_key (term_key c.args.fact.now.fact) c.rows.cursor c.args.waiting.now.rows) ≡ e ∷ (tried waiter_key (term_key c.args.fact.now.fact) (Some q) c.args.waiting.now.rows) = next_tried waiter_key c.args.key.now (term_key c.args.fact.now.fact) c.args.waiting.now.whole c.args.waiting.now.rows c.requires.key c.requires.whole c.rows.cursor c.in-Some.number q c.in-Some.waiter.now
    (to_z-of_z w64 c.in-Some.number (search rules)) (rw c.in-Some.is at c.in_ok-number.ensures.found) in
    let agree = agrees_tried waiter_key c.args.key.now (term_key c.args.fact.now.fact) c.args.waiting.now.whole c.args.waiting.now.rows c.requires.key c.requires.whole c.rows.cursor q c.in-Some.waiter.now (tried waiter_key (term_key c.args.fact.now.fact) (Some q) c.args.waiting.now.rows) next in
    let stepped = steps_left c.args.fact.now (tried waiter_key (term_key c.args.fact.now.fact) c.rows.cursor c.args.waiting.now.rows) (tried waiter_key (term_key c.args.fact.now.fact) (Some q) c.args.waiting.now.rows) e next c.rows.steps _ c.sees_fact.new.steps c.sees_fact.ensures.steps agree c.rows.invariant.steps in
    wakes_at_most c.args.fact.now c.args.waiting.now.rows c.sees_fact.new.steps c.args.steps.now (fewest c.sees_fact.new.steps (steps_to_wake c.args.fact.now (parked_in (tried waiter_key (term_key c.args.fact.now.fact) (Some q) c.args.waiting.now.rows))) _ stepped)

pub rows-preserved-in_ok-push-2 : goal.rows-preserved-in_ok-push-2
rows-preserved-in_ok-push-2 g c =
    let q = to_z w64 (of_z w64 c.in-Some.number) in
    let e : ℤ × Waiter = (q, c.in-Some.waiter.now) in
    let next : (tried waiter_key (term_key c.args.fact.now.fact) c.rows.cursor c.args.waiting.now.rows) ≡ e ∷ (tried waiter_key (term_key c.args.fact.now.fact) (Some q) c.args.waiting.now.rows) = next_tried waiter_key c.args.key.now (term_key c.args.fact.now.fact) c.args.waiting.now.whole c.args.waiting.now.rows c.requires.key c.requires.whole c.rows.cursor c.in-Some.number q c.in-Some.waiter.now
    (to_z-of_z w64 c.in-Some.number (search rules)) (rw c.in-Some.is at c.in_ok-number.ensures.found) in
    let agree = agrees_tried waiter_key c.args.key.now (term_key c.args.fact.now.fact) c.args.waiting.now.whole c.args.waiting.now.rows c.requires.key c.requires.whole c.rows.cursor q c.in-Some.waiter.now (tried waiter_key (term_key c.args.fact.now.fact) (Some q) c.args.waiting.now.rows) next in
    let stepped = steps_left c.args.fact.now (tried waiter_key (term_key c.args.fact.now.fact) c.rows.cursor c.args.waiting.now.rows) (tried waiter_key (term_key c.args.fact.now.fact) (Some q) c.args.waiting.now.rows) e next c.rows.steps _ c.sees_fact.new.steps c.sees_fact.ensures.steps agree c.rows.invariant.steps in
    let seen = sym c.in_ok-sees_fact.ensures.seen ∙ c.if-branch.true in
    record {
      callers = called c.args.fact.now (tried waiter_key (term_key c.args.fact.now.fact) c.rows.cursor c.args.waiting.now.rows) (tried waiter_key (term_key c.args.fact.now.fact) (Some q) c.args.waiting.now.rows) e next (callers_of (woken_by c.args.fact.now (parked_in (tried waiter_key (term_key c.args.fact.now.fact) None c.args.waiting.now.rows)))) c.rows.callers c.push.new.self c.rows.invariant.callers seen c.in_ok-push.ensures.ok;
      spots = gathers waiter_key (wakes_at c.args.fact.now) (spots_in waiter_key (wakes_at c.args.fact.now) (tried waiter_key (term_key c.args.fact.now.fact) None c.args.waiting.now.rows)) (tried waiter_key (term_key c.args.fact.now.fact) c.rows.cursor c.args.waiting.now.rows) (tried waiter_key (term_key c.args.fact.now.fact) (Some q) c.args.waiting.now.rows) e next c.rows.spots.items c.push-then-branch.new.self.items (c.in_ok-key.field-0, q) c.rows.invariant.spots seen (ap (λ k. (k, q)) c.in_ok-key.ensures) c.in_ok-push-2.ensures.items;
      counted = omega (arith, c.sees_fact.ensures.steps, c.rows.invariant.counted);
      steps = stepped;
    }

pub rows-preserved : goal.rows-preserved
rows-preserved g c =
    let q = to_z w64 (of_z w64 c.in-Some.number) in
    let e : ℤ × Waiter = (q, c.in-Some.waiter.now) in
    let next : (tried waiter_key (term_key c.args.fact.now.fact) c.rows.cursor c.args.waiting.now.rows) ≡ e ∷ (tried waiter_key (term_key c.args.fact.now.fact) (Some q) c.args.waiting.now.rows) = next_tried waiter_key c.args.key.now (term_key c.args.fact.now.fact) c.args.waiting.now.whole c.args.waiting.now.rows c.requires.key c.requires.whole c.rows.cursor c.in-Some.number q c.in-Some.waiter.now
    (to_z-of_z w64 c.in-Some.number (search rules)) (rw c.in-Some.is at c.in_ok-number.ensures.found) in
    let agree = agrees_tried waiter_key c.args.key.now (term_key c.args.fact.now.fact) c.args.waiting.now.whole c.args.waiting.now.rows c.requires.key c.requires.whole c.rows.cursor q c.in-Some.waiter.now (tried waiter_key (term_key c.args.fact.now.fact) (Some q) c.args.waiting.now.rows) next in
    let stepped = steps_left c.args.fact.now (tried waiter_key (term_key c.args.fact.now.fact) c.rows.cursor c.args.waiting.now.rows) (tried waiter_key (term_key c.args.fact.now.fact) (Some q) c.args.waiting.now.rows) e next c.rows.steps _ c.sees_fact.new.steps c.sees_fact.ensures.steps agree c.rows.invariant.steps in
    let seen = sym c.in_ok-sees_fact.ensures.seen ∙ c.if-branch.false in
    record {
      callers = passed_over c.args.fact.now (tried waiter_key (term_key c.args.fact.now.fact) c.rows.cursor c.args.waiting.now.rows) (tried waiter_key (term_key c.args.fact.now.fact) (Some q) c.args.waiting.now.rows) e next (callers_of (woken_by c.args.fact.now (parked_in (tried waiter_key (term_key c.args.fact.now.fact) None c.args.waiting.now.rows)))) c.rows.callers c.rows.invariant.callers seen;
      spots = passes waiter_key (wakes_at c.args.fact.now) (spots_in waiter_key (wakes_at c.args.fact.now) (tried waiter_key (term_key c.args.fact.now.fact) None c.args.waiting.now.rows)) (tried waiter_key (term_key c.args.fact.now.fact) c.rows.cursor c.args.waiting.now.rows) (tried waiter_key (term_key c.args.fact.now.fact) (Some q) c.args.waiting.now.rows) e next c.rows.spots.items c.rows.invariant.spots seen;
      counted = omega (arith, c.sees_fact.ensures.steps, c.rows.invariant.counted);
      steps = stepped;
    }

pub returns-clause-woken : goal.returns-clause-woken
returns-clause-woken g c =
    let none = (none_tried waiter_key c.args.key.now (term_key c.args.fact.now.fact) c.args.waiting.now.whole c.args.waiting.now.rows c.requires.key c.requires.whole c.rows.cursor (rw c.in_default.is at c.in_ok-number.ensures.found)) in
    woken c.args.fact.now c.args.waiting.now.rows _ (subst AreAscending c.requires.whole c.first_agreeing.ensures.ascending)
    (all_called (callers_of (woken_by c.args.fact.now (parked_in (tried waiter_key (term_key c.args.fact.now.fact) None c.args.waiting.now.rows)))) c.rows.callers (callers_of (woken_by c.args.fact.now (parked_in (tried waiter_key (term_key c.args.fact.now.fact) c.rows.cursor c.args.waiting.now.rows)))) c.rows.invariant.callers (ap (λ r. callers_of (woken_by c.args.fact.now (parked_in r))) none))
    (gathered_all waiter_key (wakes_at c.args.fact.now) (spots_in waiter_key (wakes_at c.args.fact.now) (tried waiter_key (term_key c.args.fact.now.fact) None c.args.waiting.now.rows)) (tried waiter_key (term_key c.args.fact.now.fact) c.rows.cursor c.args.waiting.now.rows) c.rows.spots.items c.rows.invariant.spots none)

pub returns-clause-steps : goal.returns-clause-steps
returns-clause-steps g c =
    wakes_at_most c.args.fact.now c.args.waiting.now.rows c.rows.steps c.args.steps.now (fewest c.rows.steps (steps_to_wake c.args.fact.now (parked_in (tried waiter_key (term_key c.args.fact.now.fact) c.rows.cursor c.args.waiting.now.rows))) _ c.rows.invariant.steps)
