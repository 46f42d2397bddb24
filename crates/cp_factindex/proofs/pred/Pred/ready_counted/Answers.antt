use Rattle.std.proofs.Common.{◌≤◌, ◌+◌, refl, sym, ◌∙◌, subst}
use Rattle.std.specs.Prelude.{Ok, Err}
use Rattle.std.proofs.lemmas.Result.{err_from_is_err_and}
use Rattle.cp_call.specs.declared.refused.Refused.TheVariants as refused
use Rattle.cp_call.specs.Store.{StoreView, is_still_parked, limit_of, state_of}
use Rattle.cp_call.specs.Refusals.{IsPrepared}
use Rattle.cp_factindex.specs.Steps.{steps_at}
use Rattle.cp_factindex.specs.Inside.{store_of}
use Rattle.cp_factindex.proofs.Readying.{test_is, refused_by_test, refused_by_memory, not_refused, ready_keeps, room_after, inside_placed, inside_awake, inside_steps}
use Rattle.cp_factindex.proofs.pred.Pred.ready_counted.Goals as goal

pub prepared-requires-clause-placed : goal.prepared-requires-clause-placed
prepared-requires-clause-placed g c = inside_placed c.self.inside c.drop_ahead.new.contents c.self.invariant c.drop_ahead.ensures.state

pub prepared-requires-clause-awake : goal.prepared-requires-clause-awake
prepared-requires-clause-awake g c = inside_awake c.self.inside c.drop_ahead.new.contents c.args.caller c.args.call.now c.in_ok-test.field-0 c.self.invariant c.drop_ahead.ensures.state
    (sym (test_is c.self.inside c.drop_ahead.new.contents c.args.caller c.len-entries.result c.args.call.now c.self.invariant c.drop_ahead.ensures.state c.len-entries.ensures) ∙ (sym (rw c.is_parked.ensures at c.test.ensures) ∙ c.in_ok-test.was))

pub invariant_of-self-2 : goal.invariant_of-self-2
invariant_of-self-2 g c = ready_keeps c.self.inside c.prepared.new.contents c.reserve.new.self c.in_ok-plan.plan c.args.caller c.args.call.now c.in_ok-test.field-0
    c.self.invariant (c.prepared.ensures.state ∙ c.drop_ahead.ensures.state) c.reserve.ensures.items (room_after c.reserve.result c.reserve.new.self.spare c.self.inside.history.spare c.reserve.ensures.ok (sym c.is_err.ensures.value ∙ c.if-is_err.false))
    (sym (test_is c.self.inside c.drop_ahead.new.contents c.args.caller c.len-entries.result c.args.call.now c.self.invariant c.drop_ahead.ensures.state c.len-entries.ensures) ∙ (sym (rw c.is_parked.ensures at c.test.ensures) ∙ c.in_ok-test.was))
    c.in_ok-plan.ensures.ok

pub returns-in_err-test-clause-refused : goal.returns-in_err-test-clause-refused
returns-in_err-test-clause-refused g c =
    let p = err_from_is_err_and c.from_residual.result c.from_residual.ensures.1 in
    rw (p.1, p.2) (subst (λ (v : StoreView). IsPrepared (is_still_parked v c.args.caller c.args.call.now) (limit_of v c.args.call.now) (Err c.in_err-test.field-0.0)) c.self.view_is
    (refused_by_test (is_still_parked (store_of c.self.inside) c.args.caller c.args.call.now) (limit_of (store_of c.self.inside) c.args.call.now) c.in_err-test.field-0.0
    (sym (test_is c.self.inside c.drop_ahead.new.contents c.args.caller c.len-entries.result c.args.call.now c.self.invariant c.drop_ahead.ensures.state c.len-entries.ensures) ∙ (sym (rw c.is_parked.ensures at c.test.ensures) ∙ c.in_err-test.was))))

pub returns-then-is_err-clause-refused : goal.returns-then-is_err-clause-refused
returns-then-is_err-clause-refused g c =
    subst (λ (v : StoreView). IsPrepared (is_still_parked v c.args.caller c.args.call.now) (limit_of v c.args.call.now) (Err refused.NoMemory)) c.self.view_is
    (refused_by_memory (is_still_parked (store_of c.self.inside) c.args.caller c.args.call.now) (limit_of (store_of c.self.inside) c.args.call.now) c.in_ok-test.field-0 refused.NoMemory
    (sym (test_is c.self.inside c.drop_ahead.new.contents c.args.caller c.len-entries.result c.args.call.now c.self.invariant c.drop_ahead.ensures.state c.len-entries.ensures) ∙ (sym (rw c.is_parked.ensures at c.test.ensures) ∙ c.in_ok-test.was))
    refl)

pub returns-in_err-plan-clause-refused : goal.returns-in_err-plan-clause-refused
returns-in_err-plan-clause-refused g c =
    let p = err_from_is_err_and c.from_residual-in_err-plan.result c.from_residual-in_err-plan.ensures.1 in
    rw (p.1, p.2) (subst (λ (v : StoreView). IsPrepared (is_still_parked v c.args.caller c.args.call.now) (limit_of v c.args.call.now) (Err c.in_err-plan.field-0.0)) c.self.view_is
    (refused_by_memory (is_still_parked (store_of c.self.inside) c.args.caller c.args.call.now) (limit_of (store_of c.self.inside) c.args.call.now) c.in_ok-test.field-0 c.in_err-plan.field-0.0
    (sym (test_is c.self.inside c.drop_ahead.new.contents c.args.caller c.len-entries.result c.args.call.now c.self.invariant c.drop_ahead.ensures.state c.len-entries.ensures) ∙ (sym (rw c.is_parked.ensures at c.test.ensures) ∙ c.in_ok-test.was))
    c.in_err-plan.ensures.err))

pub returns-in_err-plan-clause-steps : goal.returns-in_err-plan-clause-steps
returns-in_err-plan-clause-steps g c = subst (λ (v : StoreView). c.prepared.new.steps ≤ c.args.steps.now + steps_at (state_of v) c.args.call.now) c.self.view_is
    (inside_steps c.self.inside c.drop_ahead.new.contents c.args.call.now c.args.steps.now c.prepared.new.steps c.self.invariant c.drop_ahead.ensures.state c.prepared.ensures.steps)

pub returns-clause-refused : goal.returns-clause-refused
returns-clause-refused g c =
    subst (λ (v : StoreView). IsPrepared (is_still_parked v c.args.caller c.args.call.now) (limit_of v c.args.call.now) (Ok tt)) c.self.view_is
    (not_refused (is_still_parked (store_of c.self.inside) c.args.caller c.args.call.now) (limit_of (store_of c.self.inside) c.args.call.now) c.in_ok-test.field-0 tt
    (sym (test_is c.self.inside c.drop_ahead.new.contents c.args.caller c.len-entries.result c.args.call.now c.self.invariant c.drop_ahead.ensures.state c.len-entries.ensures) ∙ (sym (rw c.is_parked.ensures at c.test.ensures) ∙ c.in_ok-test.was)))

pub returns-clause-steps : goal.returns-clause-steps
returns-clause-steps g c = subst (λ (v : StoreView). c.prepared.new.steps ≤ c.args.steps.now + steps_at (state_of v) c.args.call.now) c.self.view_is
    (inside_steps c.self.inside c.drop_ahead.new.contents c.args.call.now c.args.steps.now c.prepared.new.steps c.self.invariant c.drop_ahead.ensures.state c.prepared.ensures.steps)
