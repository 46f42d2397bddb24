use Rattle.cp_call.proofs.Going.{Going-beginning}
use Rattle.cp_call.proofs.event_laws.runs_begin_going.Goals as goal

pub returns : goal.returns
returns c = Going-beginning
