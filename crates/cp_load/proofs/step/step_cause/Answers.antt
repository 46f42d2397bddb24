use Rattle.std.proofs.Common.{rules}
use Rattle.cp_load.proofs.Crowding.{causes_behind}
use Rattle.cp_load.proofs.step.step_cause.Goals as goal

pub returns-clause-cause : goal.returns-clause-cause
returns-clause-cause c =
    causes_behind c.args.is_first c.args.known.now c.args.part.now c.in_ok-named.named c.in_ok-many.many c.soonest.result c.if-is_first.false c.in_ok-named.ensures (search rules) c.soonest.ensures
