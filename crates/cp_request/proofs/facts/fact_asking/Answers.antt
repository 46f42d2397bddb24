use Rattle.std.proofs.Common.{◌≡◌, sym, ◌∙◌, ap}
use Rattle.std.proofs.lemmas.Result.{err_from_is_err_and}
use Rattle.cp_heap.specs.State.{instance_at}
use Rattle.cp_code.specs.Bodies.{Seen, seen_from}
use Rattle.cp_code.specs.Programs.{code_of}
use Rattle.cp_code.specs.Requests.{full_name}
use Rattle.cp_request.specs.Asked.{goal_shown}
use Rattle.cp_request.proofs.FactLaws.{seen_asks, seen_refused}
use Rattle.cp_request.proofs.facts.fact_asking.Goals as goal

pub returns-in_err-object : goal.returns-in_err-object
returns-in_err-object c budget =
    let whole : Seen = seen_from c.args.outer.now (instance_at c.args.heap.now c.args.fact.at) in
    let fact : Seen = record { seer = c.seer-seer.result.now; goal = instance_at c.args.heap.now c.of-seen.result.goal.at } in
    let same : whole ≡ fact = c.of-seen.ensures.seen c.args.outer.now ∙ ap (λ n. let s : Seen = record { seer = n; goal = instance_at c.args.heap.now c.of-seen.result.goal.at } in s) (sym c.seer-seer.ensures) in
    let p = err_from_is_err_and c.from_residual.result c.from_residual.ensures.1 in
    rw (p.1, p.2) (seen_refused c.args.heap.now (code_of c.args.program.now budget) (goal_shown c.args.goal) whole fact (full_name c.args.context.now) c.in_err-object.field-0.0 same (c.in_err-object.ensures budget))

pub returns : goal.returns
returns c budget =
    let whole : Seen = seen_from c.args.outer.now (instance_at c.args.heap.now c.args.fact.at) in
    let fact : Seen = record { seer = c.seer-seer.result.now; goal = instance_at c.args.heap.now c.of-seen.result.goal.at } in
    let same : whole ≡ fact = c.of-seen.ensures.seen c.args.outer.now ∙ ap (λ n. let s : Seen = record { seer = n; goal = instance_at c.args.heap.now c.of-seen.result.goal.at } in s) (sym c.seer-seer.ensures) in
    seen_asks c.args.heap.now (code_of c.args.program.now budget) (goal_shown c.args.goal) whole fact c.in_ok-object.object (full_name c.args.context.now) c.asking_with.result same (c.in_ok-object.ensures budget) c.asking_with.ensures
