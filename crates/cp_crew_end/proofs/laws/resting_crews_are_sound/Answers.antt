use Rattle.cp_crew_end.proofs.Soundness.{parked_sound}
use Rattle.cp_crew_end.proofs.laws.resting_crews_are_sound.Goals as goal

pub returns : goal.returns
returns g c k steps shells hall port = parked_sound g.M.Machine.code g.M.Rule.Asks.asks k steps shells hall port
