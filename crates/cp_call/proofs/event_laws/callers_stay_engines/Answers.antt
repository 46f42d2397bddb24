use Rattle.cp_call.proofs.Running.{callers-grown}
use Rattle.cp_call.proofs.event_laws.callers_stay_engines.Goals as goal

pub returns : goal.returns
returns c = callers-grown
