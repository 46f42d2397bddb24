use Rattle.cp_round.specs.Worker.{HasWorked}
use Rattle.cp_round.proofs.worker.Worker.work.Given as goal

abbrev pub invariant-loop : goal.invariant-loop
invariant-loop g l = HasWorked g.M.Machine.code g.A.Asker.stays g.P.Writer.stays g.C.Caller.went l.initial.self l.self
