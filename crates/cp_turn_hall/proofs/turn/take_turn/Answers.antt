use Rattle.cp_turn_hall.proofs.Turning.{place_turn}
use Rattle.cp_turn_hall.proofs.turn.take_turn.Goals as goal

pub returns-clause-turn : goal.returns-clause-turn
returns-clause-turn g c =
    place_turn c.args.turnstile.now.base c.args.call.now c.ask-asked.result c.args.place.now c.enter-value.new.pass c.leave.new.pass c.enter-value.result c.ask-asked.new.self c.number-caller.result c.count_look-place.result
    c.number-caller.ensures c.enter-value.ensures.base c.enter-value.ensures.pass c.enter-value.ensures.seen c.enter-value.ensures.mine c.requires.mine c.ask-asked.ensures.grown c.leave.ensures.pass
    c.ask-asked.ensures.answer c.ask-asked.ensures.full c.ask-asked.ensures.still c.ask-asked.ensures.legal c.count_look-place.ensures
