use Rattle.cp_call.proofs.Adding.{HasAdded-asked}
use Rattle.cp_call.proofs.event_laws.replied_calls_add_an_event.Goals as goal

pub returns : goal.returns
returns c = HasAdded-asked
