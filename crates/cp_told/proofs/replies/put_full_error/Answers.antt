use Rattle.cp_run.proofs.GainLaws.{gained-is}
use Rattle.cp_told.proofs.replies.put_full_error.Goals as goal

pub returns-clause-gained : goal.returns-clause-gained
returns-clause-gained c = gained-is c.args.run.now c.full_error.new.heap c.requires c.in_ok-kind.ensures.gains
