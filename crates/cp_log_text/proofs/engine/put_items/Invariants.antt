use Rattle.std.proofs.Common.{◌≡◌, ◌++◌, take, map}
use Rattle.cp_log_text.specs.Line.{lines_text}
use Rattle.cp_log_text.specs.Engine.{item_line}
use Rattle.cp_log_text.proofs.engine.put_items.Given as goal

abbrev pub invariant-items : goal.invariant-items
invariant-items l = l.log ≡ l.initial.log ++ lines_text (map item_line (take l.item-index l.items))
