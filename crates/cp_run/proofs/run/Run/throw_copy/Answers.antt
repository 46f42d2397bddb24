use Rattle.std.proofs.Common.{Err, ◌∙◌, sym, ap}
use Rattle.cp_code.specs.Requests.{full_name}
use Rattle.cp_code.specs.Machine as machine
use Rattle.cp_run.specs.Shown.{here_of, moved, instance_in}
use Rattle.cp_run.proofs.GainLaws.{small-is-handed, large-is-not}
use Rattle.cp_run.proofs.run.Run.throw_copy.Goals as goal

pub returns-in_ok-throw-in-Ok-clause-moved : goal.returns-in_ok-throw-in-Ok-clause-moved
returns-in_ok-throw-in-Ok-clause-moved c code level =
    let r = c.args.self.now in
    c.in_ok-throw-in-Ok.ensures.moved code level
    ∙ sym (ap (λ o. moved code r c.args.rest level (λ rest s next l. machine.throws_copy o (full_name c.args.context.now) rest)) (small-is-handed (instance_in (here_of r) c.args.at.at) c.in-Ok.ball c.in-Ok.ensures.fits c.in-Ok.ensures.term))

pub returns-in_ok-raise_too_large-in-Err-TooLarge-clause-moved : goal.returns-in_ok-raise_too_large-in-Err-TooLarge-clause-moved
returns-in_ok-raise_too_large-in-Err-TooLarge-clause-moved c code level =
    let r = c.args.self.now in
    c.in_ok-raise_too_large-in-Err-TooLarge.ensures.moved code level
    ∙ sym (ap (λ o. moved code r c.args.rest level (λ rest s next l. machine.throws_copy o (full_name c.args.context.now) rest)) (large-is-not (instance_in (here_of r) c.args.at.at) (c.in-Err-TooLarge.ensures.too_large (ap Err c.in-Err-TooLarge.field-0-is))))
