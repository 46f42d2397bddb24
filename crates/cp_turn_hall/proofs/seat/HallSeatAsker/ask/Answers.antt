use Rattle.cp_turn_hall.proofs.Asking.{grows_seen}
use Rattle.cp_turn_hall.proofs.seat.HallSeatAsker.ask.Goals as goal

pub returns-clause-seen : goal.returns-clause-seen
returns-clause-seen g c =
    grows_seen c.args.object c.args.call.now c.ask_object.result c.args.self.now c.ask_object.new.self c.ask_object.ensures.turnstiles c.ask_object.ensures.number c.ask_object.ensures.turn c.ask_object.ensures.others
