use Rattle.std.proofs.Common.{Err, ◌∙◌, ap, sym}
use Rattle.std.specs.Prelude.{codes}
use Rattle.cp_goal.specs.Builtins.{context}
use Rattle.cp_goal.specs.Errors.{resource_error}
use Rattle.cp_code.specs.Machine as machine
use Rattle.cp_run.specs.Gaining.{raise_row}
use Rattle.cp_run.specs.Shown.{here_of, instance_in, moved}
use Rattle.cp_run.proofs.GainLaws.{large-is-not}
use Rattle.cp_enter.proofs.finding.run_copy.Goals as goal

pub returns-in_ok-raise_too_large-in-Err-TooLarge-clause-moved : goal.returns-in_ok-raise_too_large-in-Err-TooLarge-clause-moved
returns-in_ok-raise_too_large-in-Err-TooLarge-clause-moved c code level =
    let r = c.args.run.now in
    c.in_ok-raise_too_large-in-Err-TooLarge.ensures.moved code level
    ∙ ap (λ x. moved code r c.args.rest level (raise_row (resource_error (codes "term_size")) x)) c.in_ok-context-in-Err-TooLarge.ensures
    ∙ sym (ap (λ o. moved code r c.args.rest level (λ rest s next l. machine.copies_move o (context c.args.seer.now (codes "findall") 3) rest)) (large-is-not (instance_in (here_of r) c.args.template.at) (c.in-Err-TooLarge.ensures.too_large (ap Err c.in-Err-TooLarge.field-0-is))))
