use Rattle.cp_load.proofs.Making.{prelude_answer}
use Rattle.cp_load.proofs.prelude.prelude.Goals as goal

pub returns : goal.returns
returns c = prelude_answer c.module_of.result c.module_of.ensures
