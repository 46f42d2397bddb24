use Rattle.cp_run.proofs.GainLaws.{gained-is}
use Rattle.cp_calls.proofs.qualifying.qualified.Goals as goal

pub returns-clause-gained : goal.returns-clause-gained
returns-clause-gained c = gained-is c.args.run.now c.qualified_on.new.heap c.requires.holds c.in_ok-goal.ensures.gains
