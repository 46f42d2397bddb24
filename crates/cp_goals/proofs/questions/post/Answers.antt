use Rattle.std.proofs.Common.{◌∙◌, ap}
use Rattle.cp_code.specs.Requests as requests
use Rattle.cp_code.specs.Requests.{full_name}
use Rattle.cp_run.specs.Shown.{moved}
use Rattle.cp_run.proofs.GainLaws.{gained-is}
use Rattle.cp_goals.specs.Rows.{asks_row}
use Rattle.cp_goals.proofs.questions.post.Goals as goal

pub ask_or_raise-requires-clause-holds : goal.ask_or_raise-requires-clause-holds
ask_or_raise-requires-clause-holds c =
    let e = c.post_goal-answer.ensures in
    (gained-is c.args.run.now c.post_goal-answer.new.heap c.requires.holds (record { bindings = e.bindings; extends = e.extends; trail = e.trail; variables = e.variables })).extended.holds

pub returns-clause-moved : goal.returns-clause-moved
returns-clause-moved c code =
    let e = c.post_goal-answer.ensures in
    let p = c.args.context.now in
    c.in_ok-ask_or_raise.ensures.moved code _ e.asks
    ∙ (gained-is c.args.run.now c.post_goal-answer.new.heap c.requires.holds (record { bindings = e.bindings; extends = e.extends; trail = e.trail; variables = e.variables })).moved code c.args.rest c.args.level (asks_row _ (full_name p)) c.requires.rest
    ∙ ap (λ ts. moved code c.args.run.now c.args.rest c.args.level (asks_row (requests.post_goal p.module ts (full_name p)) (full_name p)))
    c.post_arguments-arguments.ensures.arguments
