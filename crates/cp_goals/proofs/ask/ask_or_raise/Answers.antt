use Rattle.std.proofs.Common.{sym, ◌∙◌, ap, subst}
use Rattle.std.specs.Prelude.{Err}
use Rattle.cp_code.specs.Requests.{full_name}
use Rattle.cp_run.specs.Shown.{moved}
use Rattle.cp_request.specs.Refused.{Asks}
use Rattle.cp_goals.specs.Rows.{asks_row}
use Rattle.cp_goals.proofs.ask.ask_or_raise.Goals as goal

pub returns-in_ok-ask-in-Ok-clause-moved : goal.returns-in_ok-ask-in-Ok-clause-moved
returns-in_ok-ask-in-Ok-clause-moved c code wanted asks =
    let named = full_name c.args.context.now in
    c.in_ok-ask-in-Ok.ensures.moved code named
    ∙ sym (ap (λ w. moved code c.args.run.now c.args.rest c.args.level (asks_row w named)) (subst (Asks c.args.run.now.heap wanted) c.in-Ok.is asks).0)

pub returns-in_ok-refuse-in-Err-Raised-clause-moved : goal.returns-in_ok-refuse-in-Err-Raised-clause-moved
returns-in_ok-refuse-in-Err-Raised-clause-moved c code wanted asks =
    let named = full_name c.args.context.now in
    c.in_ok-refuse-in-Err-Raised.ensures.moved code c.args.level
    ∙ sym (ap (λ w. moved code c.args.run.now c.args.rest c.args.level (asks_row w named)) (subst (Asks c.args.run.now.heap wanted) (c.in-Err-Raised.is ∙ ap Err c.in-Err-Raised.field-0-is) asks).0)
