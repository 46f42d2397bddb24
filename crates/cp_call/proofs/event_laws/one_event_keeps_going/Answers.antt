use Rattle.cp_call.proofs.Going.{Going-event}
use Rattle.cp_call.proofs.event_laws.one_event_keeps_going.Goals as goal

pub returns : goal.returns
returns c = Going-event
