use Rattle.cp_run.proofs.EnteringLaws.{extended-is}
use Rattle.cp_back.proofs.gathering.put_copies.Goals as goal

pub returns-clause-extended : goal.returns-clause-extended
returns-clause-extended c = extended-is c.args.run.now c.import_all-elements.new.heap c.requires c.in_ok-elements.ensures.extends
