use Rattle.cp_call.proofs.Adding.{HasAdded-unanswered}
use Rattle.cp_call.proofs.event_laws.unanswered_calls_add_nothing.Goals as goal

pub returns : goal.returns
returns c = HasAdded-unanswered
