use Rattle.cp_crew_end.proofs.Soundness.{driven_going}
use Rattle.cp_crew_end.proofs.laws.crews_go_on.Goals as goal

pub returns : goal.returns
returns g c k steps shells hall port = driven_going g.M.Machine.code g.M.Rule.Asks.asks k steps shells hall port
