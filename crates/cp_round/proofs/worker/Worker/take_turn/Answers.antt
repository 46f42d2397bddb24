use Rattle.cp_round.proofs.Working.{still_tied}
use Rattle.cp_round.proofs.worker.Worker.take_turn.Goals as goal

pub invariant_of-self : goal.invariant_of-self
invariant_of-self g c =
    let s = c.self.inside in
    let now = c.drive_one.new in
    let e = c.drive_one.ensures in
    still_tied g.M.Machine.code g.M.Rule.Asks.asks g.M.Rule.Asks.objects g.A.Asker.objects g.A.Asker.serves g.P.Writer.serves g.A.Asker.seen g.A.Asker.looked g.P.Writer.wrote
    s.shell now.self s.asker.asker now.asker.asker s.port now.port e.added.0
    c.self.invariant e.number e.code e.added.1 e.added.2 e.life e.others e.others_written
