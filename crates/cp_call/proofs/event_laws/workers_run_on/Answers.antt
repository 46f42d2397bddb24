use Rattle.cp_call.proofs.Running.{AreRunning-added}
use Rattle.cp_call.proofs.event_laws.workers_run_on.Goals as goal

pub returns : goal.returns
returns c = AreRunning-added
