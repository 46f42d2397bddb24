use Rattle.std.proofs.Common.{map, sym, ◌∙◌, ap}
use Rattle.cp_code.specs.Checks as tests
use Rattle.cp_code.specs.Machine as machine
use Rattle.cp_code.specs.Programs.{code_of, type_of}
use Rattle.cp_props.specs.Checks.{check_shown}
use Rattle.cp_run.specs.Shown.{here_of, instance_in, rules_from, moved}
use Rattle.cp_calls.proofs.rules.test_call.Goals as goal

pub returns-in_ok-throw_check-in-Some-clause-moved : goal.returns-in_ok-throw_check-in-Some-clause-moved
returns-in_ok-throw_check-in-Some-clause-moved c budget =
    let code = code_of c.args.program.now budget in
    let r = c.args.run.now in
    let cs = map check_shown c.args.checks.now in
    let g = instance_in (here_of r) c.args.goal.at in
    c.in_ok-throw_check-in-Some.ensures.moved code c.args.level
    ∙ ap (λ o. moved code r c.args.rest c.args.level (λ rest s next l. machine.demanded o c.args.pred.now rest (machine.rules_move code c.args.pred.now cs (rules_from code c.args.place 0) g rest s next l)))
    (sym c.in-Some.is ∙ c.in_ok-number.ensures ∙ ap (λ args. tests.broken_call (map type_of c.args.program.now.types) cs cs args) c.requires.arguments)
