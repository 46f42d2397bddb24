use Rattle.std.proofs.Common.{◌∙◌, ap}
use Rattle.cp_run.specs.Shown.{moved}
use Rattle.cp_run.specs.Gaining.{throw_row}
use Rattle.cp_calls.proofs.check_ball.throw_check.Goals as goal

pub returns-clause-moved : goal.returns-clause-moved
returns-clause-moved c code level =
    c.in_ok-throw.ensures.moved code level ∙ ap (λ b. moved code c.args.run.now c.args.rest level (throw_row b)) c.in_ok-ball.ensures
