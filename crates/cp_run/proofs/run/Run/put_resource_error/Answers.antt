use Rattle.cp_run.proofs.GainLaws.{gained-is}
use Rattle.cp_run.proofs.run.Run.put_resource_error.Goals as goal

pub returns-clause-gained : goal.returns-clause-gained
returns-clause-gained c = gained-is c.args.self.now c.resource_error_of.new.heap c.requires c.in_ok-kind.ensures.gains
