use Rattle.cp_run.proofs.GrowthLaws.{put-is}
use Rattle.cp_run.proofs.run.Run.put.Goals as goal

pub returns-clause-holds : goal.returns-clause-holds
returns-clause-holds c = (put-is c.args.self.now c.push.new.self c.args.item c.args.rest c.in_ok-n.n c.requires.holds c.requires.rest c.requires.item c.in_ok-n.ensures.at c.in_ok-n.ensures.ok).0

pub returns-clause-put : goal.returns-clause-put
returns-clause-put c = (put-is c.args.self.now c.push.new.self c.args.item c.args.rest c.in_ok-n.n c.requires.holds c.requires.rest c.requires.item c.in_ok-n.ensures.at c.in_ok-n.ensures.ok).1
