use Rattle.cp_call.proofs.Running.{AreRunning-new}
use Rattle.cp_call.proofs.event_laws.new_workers_run.Goals as goal

pub returns : goal.returns
returns c = AreRunning-new
