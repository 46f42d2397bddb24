use Rattle.cp_call.proofs.Calmness.{Calm-state_after}
use Rattle.cp_call.proofs.laws.histories_leave_calm.Goals as goal

pub returns : goal.returns
returns c = Calm-state_after
