use Rattle.std.proofs.Common.{◌≡◌, ◌≤◌, ◌+◌, ◌-◌, ◌<◌, Bool, map, sym, ◌∙◌, arith}
use Rattle.cp_heap.specs.State.{instance_at}
use Rattle.cp_code.specs.Properties.{has_row, has_within, row_named}
use Rattle.cp_code.specs.Programs.{type_of}
use Rattle.cp_props.specs.Search.{ends, row_cost, cost_within, attempts_cost, attempts_shown, Tests}
use Rattle.cp_props.proofs.Searching.{if_ok_both, tests_language, tests_type}
use Rattle.cp_props.proofs.search.test.Goals as goal

pub returns-in-Some-clause-tested : goal.returns-in-Some-clause-tested
returns-in-Some-clause-tested c =
    let types = map type_of c.args.types.now in
    let h = c.args.heap.now in
    let some : 0 < c.args.depth = omega arith in
    tests_language types c.args.name.now (instance_at h c.args.at.at) c.args.depth (attempts_shown types h c.args.attempts.now) c.in-Some.passed some (sym c.in_ok-passed.ensures ∙ c.in-Some.is)

pub returns-in-None-clause-tested : goal.returns-in-None-clause-tested
returns-in-None-clause-tested c =
    let types = map type_of c.args.types.now in
    let h = c.args.heap.now in
    let t = instance_at h c.args.at.at in
    let name = c.args.name.now in
    let old = attempts_shown types h c.args.attempts.now in
    let new = attempts_shown types h c.test_type.new.attempts in
    let some : 0 < c.args.depth = omega arith in
    if_ok_both c.test_type.result
    (λ (passed : Bool). ends types new passed ≡ ends types old (has_row (has_within types (c.args.depth - 1)) t (row_named name types)))
    (λ (passed : Bool). attempts_cost types new ≤ attempts_cost types old + row_cost (cost_within types (c.args.depth - 1)) t (row_named name types))
    (λ (passed : Bool). Tests types c.args.depth name t old new passed)
    (λ passed is fewer. tests_type types name t c.args.depth old new passed some (sym c.in_ok-passed.ensures ∙ c.in-None.is) is fewer)
    c.test_type.ensures.answer c.test_type.ensures.less
