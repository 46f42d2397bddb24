use Rattle.cp_call.proofs.Resting.{waiting_rests}
use Rattle.cp_call.proofs.laws.waiting_workers_rest.Goals as goal

pub returns : goal.returns
returns c = waiting_rests
