use Rattle.cp_control.proofs.BodyLaws.{arrow-other}
use Rattle.cp_control.proofs.control.arrow_of_compound.Goals as goal

pub returns-else-arity-eq2-clause-arrow : goal.returns-else-arity-eq2-clause-arrow
returns-else-arity-eq2-clause-arrow c terms le = arrow-other c.args.name.now c.args.arity terms c.args.first c.if-arity-eq2.false le
