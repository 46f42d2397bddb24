use Rattle.cp_crew.proofs.Going.{stays_as_is}
use Rattle.cp_crew.proofs.rounds.refused.Goals as goal

pub returns : goal.returns
returns g c = stays_as_is g.M.Machine.code g.M.Rule.Asks.asks g.M.Rule.Asks.objects g.C.Caller.went c.args.shells c.args.hall c.args.port c.args.callers c.requires c.state_invariant.ensures
