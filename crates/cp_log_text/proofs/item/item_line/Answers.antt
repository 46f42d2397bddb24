use Rattle.cp_log_text.specs.Engine.{item_parts}
use Rattle.cp_log_text.proofs.Parts.{whole, same}
use Rattle.cp_log_text.proofs.item.item_line.Goals as goal

pub returns : goal.returns
returns c = whole (item_parts c.args.item.now) c.new-line.ensures.cells c.new-line.ensures.next (same (c.in_ok-add_item.ensures) (cc))
