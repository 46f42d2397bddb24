use Rattle.cp_run.proofs.GainLaws.{gained-is}
use Rattle.cp_goals.proofs.ask.put_kind.Goals as goal

pub returns-clause-gained : goal.returns-clause-gained
returns-clause-gained c = gained-is c.args.run.now c.put.new.heap c.requires.holds c.in_ok-term.ensures.gains
