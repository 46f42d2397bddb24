use Rattle.std.proofs.Common.{◌∙◌, ap}
use Rattle.cp_code.specs.Bodies.{seen_from}
use Rattle.cp_code.specs.Programs.{code_of}
use Rattle.cp_code.specs.Requests as requests
use Rattle.cp_code.specs.Requests.{full_name}
use Rattle.cp_request.specs.Asked.{goal_shown}
use Rattle.cp_run.specs.Shown.{moved}
use Rattle.cp_goals.specs.Rows.{asks_row}
use Rattle.cp_goals.proofs.AskLaws.{answer-there}
use Rattle.cp_goals.proofs.questions.on_facts.Goals as goal

pub ask_or_raise-requires-clause-answer : goal.ask_or_raise-requires-clause-answer
ask_or_raise-requires-clause-answer c = answer-there c.args.run.now.heap _ c.fact_asking-answer.result (c.fact_asking-answer.ensures 0)

pub returns-clause-moved : goal.returns-clause-moved
returns-clause-moved c budget =
    let code = code_of c.args.program.now budget in
    let p = c.args.context.now in
    c.in_ok-ask_or_raise.ensures.moved code _ (c.fact_asking-answer.ensures budget)
    ∙ ap (λ t. moved code c.args.run.now c.args.rest c.args.level (asks_row (requests.fact_asking code (goal_shown c.args.fact) (seen_from p.module t) (full_name p)) (full_name p)))
    c.first_argument-at.ensures.argument
