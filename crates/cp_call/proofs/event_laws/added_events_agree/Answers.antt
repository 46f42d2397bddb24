use Rattle.cp_call.proofs.Adding.{Agrees-added}
use Rattle.cp_call.proofs.event_laws.added_events_agree.Goals as goal

pub returns : goal.returns
returns c = Agrees-added
