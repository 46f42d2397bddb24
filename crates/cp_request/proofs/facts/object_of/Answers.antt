use Rattle.std.proofs.Common.{ℕ, Option, subst}
use Rattle.std.specs.Prelude.{Ok}
use Rattle.std.proofs.lemmas.Result.{err_from_is_err_and}
use Rattle.cp_heap.specs.State.{instance_at}
use Rattle.cp_code.specs.Bodies.{Seen}
use Rattle.cp_code.specs.Goals.{seen_pred}
use Rattle.cp_code.specs.Programs.{code_of}
use Rattle.cp_request.specs.Asked.{goal_shown}
use Rattle.cp_request.specs.Found.{FindsSeen}
use Rattle.cp_request.proofs.FactLaws.{fact_object, fact_refused, fact_nowhere}
use Rattle.cp_request.proofs.facts.object_of.Goals as goal

pub returns-in_err-object : goal.returns-in_err-object
returns-in_err-object c budget =
    let fact : Seen = record { seer = c.args.seer.now; goal = instance_at c.args.heap.now c.args.fact.at } in
    let p = err_from_is_err_and c.from_residual-in_err-object.result c.from_residual-in_err-object.ensures.1 in
    rw (p.1, p.2) (fact_refused c.args.heap.now (code_of c.args.program.now budget) (goal_shown c.args.goal) fact c.in-Some.name.now c.in_ok-arity.arity c.in_err-object.field-0.0 c.in_ok-arity.ensures c.in-Some.ensures (c.in_err-object.ensures c.args.heap.now budget))

pub returns-in-Some-2 : goal.returns-in-Some-2
returns-in-Some-2 c budget =
    let fact : Seen = record { seer = c.args.seer.now; goal = instance_at c.args.heap.now c.args.fact.at } in
    fact_object c.args.heap.now (code_of c.args.program.now budget) (goal_shown c.args.goal) fact c.in-Some.name.now c.in_ok-arity.arity c.in-Some-2.object c.in_ok-arity.ensures c.in-Some.ensures (let F : Option ℕ → Type 0 = λ o. FindsSeen c.args.heap.now (goal_shown c.args.goal) (seen_pred (code_of c.args.program.now budget) c.args.seer.now c.in-Some.name.now c.in_ok-arity.arity) (Ok o) in subst F c.in-Some-2.is (c.in_ok-object.ensures c.args.heap.now budget))

pub returns-in-None : goal.returns-in-None
returns-in-None c budget =
    let fact : Seen = record { seer = c.args.seer.now; goal = instance_at c.args.heap.now c.args.fact.at } in
    fact_nowhere c.args.heap.now (code_of c.args.program.now budget) (goal_shown c.args.goal) fact c.in-Some.name.now c.in_ok-arity.arity c.no_data.result c.in_ok-arity.ensures c.in-Some.ensures (let F : Option ℕ → Type 0 = λ o. FindsSeen c.args.heap.now (goal_shown c.args.goal) (seen_pred (code_of c.args.program.now budget) c.args.seer.now c.in-Some.name.now c.in_ok-arity.arity) (Ok o) in subst F c.in-None.is (c.in_ok-object.ensures c.args.heap.now budget)) c.no_data.ensures
