use Rattle.cp_round.proofs.Working.{nothing_yet, works_on}
use Rattle.cp_round.proofs.worker.Worker.work.Goals as goal

pub loop-init : goal.loop-init
loop-init g c = nothing_yet g.M.Machine.code g.A.Asker.stays g.P.Writer.stays g.C.Caller.went g.met.A.Asker.stays_here g.met.P.Writer.stays_here c.args.self.now

pub returns-in-Err : goal.returns-in-Err
returns-in-Err g c = works_on g.M.Machine.code g.A.Asker.stays g.P.Writer.stays g.C.Caller.went g.met.A.Asker.stays_on g.met.P.Writer.stays_on c.args.self.now c.loop.self c.take_turn.new.self c.loop.invariant c.take_turn.ensures

pub returns-then-not-wait : goal.returns-then-not-wait
returns-then-not-wait g c = works_on g.M.Machine.code g.A.Asker.stays g.P.Writer.stays g.C.Caller.went g.met.A.Asker.stays_on g.met.P.Writer.stays_on c.args.self.now c.loop.self c.take_turn.new.self c.loop.invariant c.take_turn.ensures

pub loop-preserved : goal.loop-preserved
loop-preserved g c = works_on g.M.Machine.code g.A.Asker.stays g.P.Writer.stays g.C.Caller.went g.met.A.Asker.stays_on g.met.P.Writer.stays_on c.args.self.now c.loop.self c.take_turn.new.self c.loop.invariant c.take_turn.ensures
