use Rattle.cp_call.proofs.Going.{Going-events}
use Rattle.cp_call.proofs.event_laws.events_keep_going.Goals as goal

pub returns : goal.returns
returns c = Going-events
