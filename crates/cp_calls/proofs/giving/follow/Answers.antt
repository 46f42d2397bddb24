use Rattle.std.proofs.Common.{◌∙◌, sym, ap}
use Rattle.cp_code.specs.Requests.{full_name}
use Rattle.cp_request.specs.Told.{remote_shown}
use Rattle.cp_run.specs.Shown.{moved}
use Rattle.cp_calls.specs.Rows.{behind_row}
use Rattle.cp_calls.proofs.giving.follow.Goals as goal

pub returns-in_ok-throw_remote-in-Throws-clause-moved : goal.returns-in_ok-throw_remote-in-Throws-clause-moved
returns-in_ok-throw_remote-in-Throws-clause-moved c code level =
    c.in_ok-throw_remote-in-Throws.ensures.moved code level
    ∙ sym (ap (λ b. moved code c.args.run.now c.args.rest level (behind_row (remote_shown c.args.pred.now b) (full_name c.args.pred.now))) c.in-Throws.is)

pub returns-in_ok-raise_remote-in-Breaks-clause-moved : goal.returns-in_ok-raise_remote-in-Breaks-clause-moved
returns-in_ok-raise_remote-in-Breaks-clause-moved c code level =
    c.in_ok-raise_remote-in-Breaks.ensures.moved code level
    ∙ sym (ap (λ b. moved code c.args.run.now c.args.rest level (behind_row (remote_shown c.args.pred.now b) (full_name c.args.pred.now))) c.in-Breaks.is)
