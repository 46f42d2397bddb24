use Rattle.cp_call.proofs.Running.{AreTied-running}
use Rattle.cp_call.proofs.event_laws.ended_workers_are_tied.Goals as goal

pub returns : goal.returns
returns c = AreTied-running
