use Rattle.std.proofs.Common.{rules, ◌≡◌, refl, sym, ◌∙◌, ap, subst}
use Rattle.std.specs.Prelude.{Ok, Err}
use Rattle.std.proofs.lemmas.Result.{err_from_is_err_and}
use Rattle.cp_call.specs.Store.{StoreView, is_still_parked, limit_of}
use Rattle.cp_fact.specs.Inside.{store_of}
use Rattle.cp_call.specs.Refusals.{IsPrepared, tested}
use Rattle.cp_fact.proofs.Readying.{test_is, refused_by_test, refused_by_memory, not_refused, ready_keeps, inside_placed}
use Rattle.cp_fact.proofs.pred.Pred.ready.Goals as goal

pub prepared-requires : goal.prepared-requires
prepared-requires c = inside_placed c.self.inside c.make_room.new.contents c.self.invariant c.make_room.ensures.contents

pub invariant_of-self-2 : goal.invariant_of-self-2
invariant_of-self-2 c = ready_keeps c.self.inside c.make_room.new.contents c.make_room.new.history c.in_ok-plan.plan c.args.caller c.args.call.now c.in_ok-test.field-0
    c.self.invariant c.make_room.ensures.contents c.make_room.ensures.history c.in_ok-make_room.ensures.entry_room c.in_ok-make_room.ensures.parked_room c.in_ok-make_room.ensures.facts_room
    (sym (test_is c.self.inside c.args.caller c.len-entries.result c.args.call.now c.self.invariant c.len-entries.ensures) ∙ (sym (rw c.as_slice.ensures at c.test.ensures) ∙ c.in_ok-test.was))
    c.in_ok-plan.ensures.ok

pub returns-in_err-test-clause-refused : goal.returns-in_err-test-clause-refused
returns-in_err-test-clause-refused c =
    let p = err_from_is_err_and c.from_residual.result c.from_residual.ensures.1 in
    rw (p.1, p.2) (subst (λ (v : StoreView). IsPrepared (is_still_parked v c.args.caller c.args.call.now) (limit_of v c.args.call.now) (Err c.in_err-test.field-0.0)) c.self.view_is
    (refused_by_test (is_still_parked (store_of c.self.inside) c.args.caller c.args.call.now) (limit_of (store_of c.self.inside) c.args.call.now) c.in_err-test.field-0.0
    (sym (test_is c.self.inside c.args.caller c.len-entries.result c.args.call.now c.self.invariant c.len-entries.ensures) ∙ (sym (rw c.as_slice.ensures at c.test.ensures) ∙ c.in_err-test.was))))

pub returns-in_err-make_room-clause-refused : goal.returns-in_err-make_room-clause-refused
returns-in_err-make_room-clause-refused c =
    let p = err_from_is_err_and c.from_residual-in_err-make_room.result c.from_residual-in_err-make_room.ensures.1 in
    rw (p.1, p.2) (subst (λ (v : StoreView). IsPrepared (is_still_parked v c.args.caller c.args.call.now) (limit_of v c.args.call.now) (Err c.in_err-make_room.field-0.0)) c.self.view_is
    (refused_by_memory (is_still_parked (store_of c.self.inside) c.args.caller c.args.call.now) (limit_of (store_of c.self.inside) c.args.call.now) c.in_ok-test.field-0 c.in_err-make_room.field-0.0
    (sym (test_is c.self.inside c.args.caller c.len-entries.result c.args.call.now c.self.invariant c.len-entries.ensures) ∙ (sym (rw c.as_slice.ensures at c.test.ensures) ∙ c.in_ok-test.was))
    c.in_err-make_room.ensures.err))

pub returns-in_err-plan-clause-refused : goal.returns-in_err-plan-clause-refused
returns-in_err-plan-clause-refused c =
    let p = err_from_is_err_and c.from_residual-in_err-plan.result c.from_residual-in_err-plan.ensures.1 in
    rw (p.1, p.2) (subst (λ (v : StoreView). IsPrepared (is_still_parked v c.args.caller c.args.call.now) (limit_of v c.args.call.now) (Err c.in_err-plan.field-0.0)) c.self.view_is
    (refused_by_memory (is_still_parked (store_of c.self.inside) c.args.caller c.args.call.now) (limit_of (store_of c.self.inside) c.args.call.now) c.in_ok-test.field-0 c.in_err-plan.field-0.0
    (sym (test_is c.self.inside c.args.caller c.len-entries.result c.args.call.now c.self.invariant c.len-entries.ensures) ∙ (sym (rw c.as_slice.ensures at c.test.ensures) ∙ c.in_ok-test.was))
    c.in_err-plan.ensures.err))

pub returns-clause-refused : goal.returns-clause-refused
returns-clause-refused c =
    subst (λ (v : StoreView). IsPrepared (is_still_parked v c.args.caller c.args.call.now) (limit_of v c.args.call.now) (Ok tt)) c.self.view_is
    (not_refused (is_still_parked (store_of c.self.inside) c.args.caller c.args.call.now) (limit_of (store_of c.self.inside) c.args.call.now) c.in_ok-test.field-0 tt
    (sym (test_is c.self.inside c.args.caller c.len-entries.result c.args.call.now c.self.invariant c.len-entries.ensures) ∙ (sym (rw c.as_slice.ensures at c.test.ensures) ∙ c.in_ok-test.was)))
