use Rattle.std.proofs.Common.{Err, ap}
use Rattle.cp_engine.proofs.AnswerLaws.{answer-moved, error-moved}
use Rattle.cp_engine.proofs.answering.run_answer.Goals as goal

pub returns-in-Ok-clause-moved : goal.returns-in-Ok-clause-moved
returns-in-Ok-clause-moved c p started budget level =
    answer-moved p budget level c.args.started.now c.args.run.now c.put_answer.new.run c.go.new.self c.args.goals c.in_ok-answer.answer.at c.in-Ok.answer started c.in_ok-answer.ensures.gained c.in_ok-answer.ensures.instance c.requires.goals c.in-Ok.ensures.fits c.in-Ok.ensures.term c.go.ensures

pub returns-in_ok-raise_too_large-in-Err-TooLarge-clause-moved : goal.returns-in_ok-raise_too_large-in-Err-TooLarge-clause-moved
returns-in_ok-raise_too_large-in-Err-TooLarge-clause-moved c p started budget level =
    error-moved p budget level c.args.started.now c.args.run.now c.put_answer.new.run c.raise_too_large.new.self c.args.goals c.in_ok-answer.answer.at started c.in_ok-answer.ensures.gained c.in_ok-answer.ensures.instance c.requires.goals c.requires.none
    (c.in-Err-TooLarge.ensures.too_large (ap Err c.in-Err-TooLarge.field-0-is)) c.in_ok-raise_too_large-in-Err-TooLarge.ensures.moved
