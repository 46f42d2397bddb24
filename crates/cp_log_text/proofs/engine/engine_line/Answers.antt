use Rattle.cp_log_text.specs.Engine.{engine_parts}
use Rattle.cp_log_text.proofs.Parts.{whole, same, first}
use Rattle.cp_log_text.proofs.engine.engine_line.Goals as goal

pub returns : goal.returns
returns c = whole (engine_parts c.args.number) c.new-line.ensures.cells c.new-line.ensures.next (same (first c.in_ok-functor.ensures c.in_ok-number.ensures) (cc))
