use Rattle.cp_log_text.specs.History.{object_parts}
use Rattle.cp_log_text.proofs.Parts.{whole, same, first}
use Rattle.cp_log_text.proofs.object.object_line.Goals as goal

pub returns : goal.returns
returns c = whole (object_parts c.args.name.now) c.new-line.ensures.cells c.new-line.ensures.next (same (first c.in_ok-functor.ensures c.in_ok-add_name.ensures) (cc))
