use Rattle.std.proofs.Common.{◌∙◌, ap}
use Rattle.cp_code.specs.Requests.{full_name}
use Rattle.cp_run.specs.Shown.{moved}
use Rattle.cp_run.specs.Gaining.{raise_row}
use Rattle.cp_told.proofs.replies.raise_full.Goals as goal

pub returns-clause-moved : goal.returns-clause-moved
returns-clause-moved c code level =
    c.in_ok-raise.ensures.moved code level
    ∙ c.in_ok-kind.ensures.gained.moved code c.args.rest level (raise_row _ (full_name c.args.asking.context)) c.requires.rest
    ∙ ap (λ k. moved code c.args.run.now c.args.rest level (raise_row k (full_name c.args.asking.context))) c.in_ok-kind.ensures.instance
