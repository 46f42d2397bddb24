use Rattle.std.proofs.Common.{length}
use Rattle.cp_props.proofs.Naming.{named_at}
use Rattle.cp_props.proofs.broken.broken_exit.Goals as goal

pub holds-requires-clause-named : goal.holds-requires-clause-named
holds-requires-clause-named c =
    (named_at (length c.args.args.now) c.args.checks.now c.as_slice-check-items.result.now c.loop-check.check-index c.check-item.result
    c.as_slice-check-items.ensures c.requires.named c.loop-check-test.true c.check-item.is).1
