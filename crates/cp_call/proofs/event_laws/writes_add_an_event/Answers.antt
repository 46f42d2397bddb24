use Rattle.cp_call.proofs.Adding.{HasAdded-wrote}
use Rattle.cp_call.proofs.event_laws.writes_add_an_event.Goals as goal

pub returns : goal.returns
returns c = HasAdded-wrote
