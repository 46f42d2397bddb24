use Rattle.std.proofs.Common.{subst}
use Rattle.cp_builtin.specs.Ends.{HasEnded}
use Rattle.cp_builtin.proofs.ball.outcome_of.Goals as goal

pub error_ball-requires : goal.error_ball-requires
error_ball-requires c = (subst (λ ended. HasEnded c.args.heap.now ended c.requires.0) c.in-Raises.is c.requires.1).0
