use Rattle.std.proofs.Common.{length}
use Rattle.cp_log_text.specs.Log.{head_parts}
use Rattle.cp_log_text.proofs.Parts.{whole, same, first}
use Rattle.cp_log_text.proofs.outcome.head_line.Goals as goal

pub returns : goal.returns
returns c = whole (head_parts c.args.outcome.now.steps (length c.args.outcome.now.engines)) c.new-line.ensures.cells c.new-line.ensures.next (same (first c.in_ok-functor.ensures (first c.in_ok-number.ensures (first c.in_ok-number-2.ensures c.in_ok-number-3.ensures))) (cc))
