use Rattle.cp_call.proofs.Adding.{HasAdded-append}
use Rattle.cp_call.proofs.event_laws.added_events_join.Goals as goal

pub returns : goal.returns
returns c = HasAdded-append
