use Rattle.cp_run.proofs.EnteringLaws.{extended-is}
use Rattle.cp_told.proofs.replies.import.Goals as goal

pub returns-clause-extended : goal.returns-clause-extended
returns-clause-extended c = extended-is c.args.run.now c.import.new.self c.requires c.in_ok-at.ensures.extends
