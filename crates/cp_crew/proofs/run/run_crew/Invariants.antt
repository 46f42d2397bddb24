use Rattle.cp_crew.specs.Crew.{HasGoneOn}
use Rattle.cp_crew.proofs.run.run_crew.Given as goal

abbrev pub invariant-loop : goal.invariant-loop
invariant-loop g l = HasGoneOn g.M.Machine.code g.M.Rule.Asks.asks g.C.Caller.went l.fn.shells l.crew.shells l.fn.hall l.crew.hall l.fn.port l.crew.port l.fn.callers l.crew.callers l.crew.memory
