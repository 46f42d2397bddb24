use Rattle.std.proofs.Common.{sym, subst}
use Rattle.cp_link.specs.Lawful.{AllHaveBodies}
use Rattle.cp_assemble.proofs.BodyLaws.{both_have, remote_have}
use Rattle.cp_assemble.proofs.assembling.preds.Goals as goal

pub returns-clause-bodies : goal.returns-clause-bodies
returns-clause-bodies c =
    let remote = subst AllHaveBodies (sym c.in_ok-push_remote.ensures) (both_have _ _ c.in_ok-all.ensures.bodies (remote_have c.args.modules.now c.args.active.now)) in
    subst AllHaveBodies (sym c.in_ok-push_preds_in.ensures.preds) (both_have _ _ remote c.in_ok-push_preds_in.ensures.bodies)
