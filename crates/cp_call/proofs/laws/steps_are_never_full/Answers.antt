use Rattle.cp_call.proofs.Parking.{step-not_full}
use Rattle.cp_call.proofs.laws.steps_are_never_full.Goals as goal

pub returns : goal.returns
returns c = step-not_full
