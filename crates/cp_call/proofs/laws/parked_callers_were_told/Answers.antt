use Rattle.cp_call.proofs.Parking.{parked_ends}
use Rattle.cp_call.proofs.laws.parked_callers_were_told.Goals as goal

pub returns : goal.returns
returns c = parked_ends
