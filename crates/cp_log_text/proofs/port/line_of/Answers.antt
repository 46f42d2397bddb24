use Rattle.cp_log_text.specs.Port.{write_parts}
use Rattle.cp_log_text.proofs.Parts.{whole, same, both, first}
use Rattle.cp_log_text.proofs.port.line_of.Goals as goal

pub returns : goal.returns
returns c = whole (write_parts c.args.write.now) c.new-line.ensures.cells c.new-line.ensures.next (same (first c.in_ok-functor.ensures (first c.in_ok-number.ensures (both c.in_ok-add_bytes.ensures c.in_ok-add_put_reply.ensures))) (cc))
