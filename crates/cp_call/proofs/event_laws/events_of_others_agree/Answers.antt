use Rattle.cp_call.proofs.Event.{Agrees-others}
use Rattle.cp_call.proofs.event_laws.events_of_others_agree.Goals as goal

pub returns : goal.returns
returns c = Agrees-others
