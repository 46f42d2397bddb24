use Rattle.std.proofs.Common.{sym, ◌∙◌, ap, subst}
use Rattle.cp_builtin.specs.Ends.{IsOutcome}
use Rattle.cp_code.specs.Requests.{full_name}
use Rattle.cp_run.specs.Shown.{moved}
use Rattle.cp_run.specs.Gaining.{throw_row}
use Rattle.cp_goals.specs.Rows.{ends_row}
use Rattle.cp_goals.proofs.on_terms.end.Goals as goal

pub returns-in_ok-throw-in-Raises-clause-moved : goal.returns-in_ok-throw-in-Raises-clause-moved
returns-in_ok-throw-in-Raises-clause-moved c code p e is =
    let r = c.args.run.now in
    let known = subst (λ o. IsOutcome r.heap p o e) c.in-Raises.is is in
    c.in_ok-throw-in-Raises.ensures.moved code c.args.level
    ∙ ap (λ b. moved code r c.args.rest c.args.level (throw_row b)) known.2
    ∙ sym (ap (λ x. moved code r c.args.rest c.args.level (ends_row x (full_name p))) known.1)
