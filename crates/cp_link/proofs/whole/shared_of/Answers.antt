use Rattle.std.proofs.Common.{ap, drop}
use Rattle.cp_link.specs.Refusals.{shared_of_parts}
use Rattle.cp_link.specs.Kept.{counted}
use Rattle.cp_link.proofs.Passing.{counted_end, drop_past}
use Rattle.cp_link.proofs.whole.shared_of.Goals as goal

pub returns : goal.returns
returns c =
    counted_end c.loop-part.shared (shared_of_parts (drop c.loop-part.part-index c.args.parts.now)) (counted (shared_of_parts c.args.parts.now)) c.loop-part.invariant.0 (ap shared_of_parts (drop_past c.args.parts.now c.loop-part.part-index c.loop-part-test.false)) c.loop-part.invariant.1
