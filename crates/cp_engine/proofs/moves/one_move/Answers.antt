use Rattle.std.proofs.Common.{sym, ◌∙◌, ap, drop}
use Rattle.cp_code.specs.Machine as machine
use Rattle.cp_code.specs.Programs.{code_of}
use Rattle.cp_code.specs.Requests.{full_name}
use Rattle.cp_request.specs.Told.{remote_shown}
use Rattle.cp_run.specs.declared.point.Point.TheVariants as point
use Rattle.cp_run.specs.declared.run.Run.{Run}
use Rattle.cp_run.specs.Programs.{tries_row}
use Rattle.cp_run.specs.Shown.{here_of, instance_in, rules_from, moved}
use Rattle.cp_engine.proofs.MoveLaws.{point-moved}
use Rattle.cp_engine.proofs.moves.one_move.Goals as goal

pub returns-in_ok-run_goals-in-Runs-clause-moved : goal.returns-in_ok-run_goals-in-Runs-clause-moved
returns-in_ok-run_goals-in-Runs-clause-moved c budget =
    let code = code_of c.args.program.now budget in
    let g = c.args.started.now.goal in
    let r = c.args.run.now in
    c.in_ok-run_goals-in-Runs.ensures.moved budget
    ∙ ap (λ (x : Run). moved code x c.in-Runs.goals c.in-Runs.level (machine.item_move code g)) c.leave-point.ensures.state
    ∙ sym (point-moved code g r (point.Runs c.in-Runs.goals c.in-Runs.level) (sym c.leave-point.ensures.point ∙ c.in-Runs.is))

pub returns-in_ok-try_next-in-Tries-clause-moved : goal.returns-in_ok-try_next-in-Tries-clause-moved
returns-in_ok-try_next-in-Tries-clause-moved c budget =
    let code = code_of c.args.program.now budget in
    let g = c.args.started.now.goal in
    let r = c.args.run.now in
    c.in_ok-try_next-in-Tries.ensures.moved budget
    ∙ ap (λ (x : Run). moved code x c.in-Tries.rest c.in-Tries.level (tries_row (rules_from code c.in-Tries.pred c.in-Tries.from) (instance_in (here_of x) c.in-Tries.goal.at))) c.leave-point.ensures.state
    ∙ sym (point-moved code g r (point.Tries c.in-Tries.pred c.in-Tries.from c.in-Tries.goal c.in-Tries.rest c.in-Tries.level) (sym c.leave-point.ensures.point ∙ c.in-Tries.is))

pub returns-in_ok-give-in-Gives-clause-moved : goal.returns-in_ok-give-in-Gives-clause-moved
returns-in_ok-give-in-Gives-clause-moved c budget =
    let code = code_of c.args.program.now budget in
    let g = c.args.started.now.goal in
    let r = c.args.run.now in
    c.in_ok-give-in-Gives.ensures.moved code
    ∙ ap (λ (x : Run). moved code x c.in-Gives.rest c.in-Gives.level (λ rest s next level. machine.gives_move (drop c.in-Gives.from c.in-Gives.answer.answers) (remote_shown c.in-Gives.pred c.in-Gives.answer.behind) (instance_in (here_of x) c.in-Gives.goal.at) (full_name c.in-Gives.pred) rest s next level)) c.leave-point.ensures.state
    ∙ sym (point-moved code g r (point.Gives c.in-Gives.pred c.in-Gives.answer c.in-Gives.from c.in-Gives.goal c.in-Gives.rest c.in-Gives.level) (sym c.leave-point.ensures.point ∙ c.in-Gives.is))
