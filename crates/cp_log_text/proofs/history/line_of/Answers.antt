use Rattle.cp_log_text.specs.History.{entry_parts}
use Rattle.cp_log_text.proofs.Parts.{whole, same, both, first}
use Rattle.cp_log_text.proofs.history.line_of.Goals as goal

pub returns : goal.returns
returns c = whole (entry_parts c.args.entry.now) c.new-line.ensures.cells c.new-line.ensures.next (same (first c.in_ok-functor.ensures (first c.in_ok-number.ensures (both c.in_ok-add_call.ensures c.in_ok-add_reply.ensures))) (cc))
