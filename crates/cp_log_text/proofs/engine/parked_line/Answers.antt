use Rattle.std.proofs.Common.{[], ◌∷◌}
use Rattle.cp_log_text.specs.Line.{functor, number}
use Rattle.cp_log_text.proofs.Parts.{whole, same, first}
use Rattle.cp_log_text.proofs.engine.parked_line.Goals as goal

pub returns : goal.returns
returns c = whole (functor "stand" 1 ∷ functor "parked" 1 ∷ number c.args.object ∷ []) c.new-line.ensures.cells c.new-line.ensures.next (same (first c.in_ok-functor.ensures (first c.in_ok-functor-2.ensures c.in_ok-number.ensures)) (cc))
