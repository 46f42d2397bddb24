use Rattle.std.proofs.Common.{Err, sym, ◌∙◌, ap}
use Rattle.cp_code.specs.Machine as machine
use Rattle.cp_run.specs.Shown.{here_of, moved, instance_in}
use Rattle.cp_run.proofs.GainLaws.{large-is-not}
use Rattle.cp_calls.proofs.remote.call_remote.Goals as goal

pub returns-in_ok-raise_too_large-in-Err-TooLarge-clause-moved : goal.returns-in_ok-raise_too_large-in-Err-TooLarge-clause-moved
returns-in_ok-raise_too_large-in-Err-TooLarge-clause-moved c code =
    let r = c.args.run.now in
    let g = instance_in (here_of r) c.args.goal.at in
    c.in_ok-raise_too_large-in-Err-TooLarge.ensures.moved code c.args.level
    ∙ sym (ap (λ o. moved code r c.args.rest c.args.level (λ rest s next l. machine.calls_remote c.args.pred.now g o rest s next l)) (large-is-not g (c.in-Err-TooLarge.ensures.too_large (ap Err c.in-Err-TooLarge.field-0-is))))
