use Rattle.cp_call.proofs.Adding.{HasAdded-silent}
use Rattle.cp_call.proofs.event_laws.silent_events_are_added.Goals as goal

pub returns : goal.returns
returns c = HasAdded-silent
