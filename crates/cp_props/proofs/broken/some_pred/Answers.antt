use Rattle.std.proofs.Common.{length}
use Rattle.cp_props.proofs.Naming.{named_at}
use Rattle.cp_props.proofs.broken.some_pred.Goals as goal

pub is_met_pred-requires-clause-named : goal.is_met_pred-requires-clause-named
is_met_pred-requires-clause-named c =
    (named_at (length c.args.args.now) c.args.checks.now c.as_slice-check-items.result.now c.loop-check.check-index c.check-item.result
    c.as_slice-check-items.ensures c.requires.named c.loop-check-test.true c.check-item.is).0
