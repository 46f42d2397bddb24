use Rattle.std.proofs.Common.{◌+◌, ◌<◌, false, [], ◌∷◌, ◌++◌, length, map, ◌∙◌, ap, arith}
use Rattle.std.proofs.lemmas.List.{length-map}
use Rattle.cp_heap.specs.State.{instance_at}
use Rattle.cp_code.specs.Properties.{has_row, has_within}
use Rattle.cp_code.specs.Programs.{type_of}
use Rattle.cp_props.specs.declared.attempt.Attempt.{Attempt}
use Rattle.cp_props.specs.Search.{ends, row_cost, cost_within, attempts_shown}
use Rattle.cp_props.proofs.Searching.{pushed-ends, pushed-cost, type_answer, type_cost}
use Rattle.cp_props.proofs.search.test_type.Goals as goal

pub returns-in_ok-push-in-Some-clause-answer : goal.returns-in_ok-push-in-Some-clause-answer
returns-in_ok-push-in-Some-clause-answer c =
    let types = map type_of c.args.types.now in
    let h = c.args.heap.now in
    let t = instance_at h c.args.at.at in
    let begun : Attempt = record { depth = c.args.depth; at = c.args.at; row = c.in-Some.row; next = 0; demands = []; met = 0 } in
    let grown = c.in_ok-push-in-Some.ensures.ok ∙ ap (λ (a : Attempt). c.args.attempts.now ++ a ∷ []) c.new.ensures in
    pushed-ends types h c.args.attempts.now c.push.new.self begun grown false
    ∙ ap (ends types (attempts_shown types h c.args.attempts.now)) (type_answer types c.args.depth c.in-Some.row t ∙ ap (has_row (has_within types c.args.depth) t) c.in-Some.ensures.row)

pub returns-in_ok-push-in-Some-clause-less : goal.returns-in_ok-push-in-Some-clause-less
returns-in_ok-push-in-Some-clause-less c =
    let types = map type_of c.args.types.now in
    let h = c.args.heap.now in
    let t = instance_at h c.args.at.at in
    let begun : Attempt = record { depth = c.args.depth; at = c.args.at; row = c.in-Some.row; next = 0; demands = []; met = 0 } in
    let grown = c.in_ok-push-in-Some.ensures.ok ∙ ap (λ (a : Attempt). c.args.attempts.now ++ a ∷ []) c.new.ensures in
    let cost = pushed-cost types h c.args.attempts.now c.push.new.self begun grown in
    let within : c.in-Some.row < length types = omega (arith, length-map c.args.types.now type_of, c.in-Some.ensures.within) in
    let fits = type_cost types c.args.depth c.in-Some.row t within in
    let same = ap (row_cost (cost_within types c.args.depth) t) c.in-Some.ensures.row in
    omega (arith, cost, fits, same)
