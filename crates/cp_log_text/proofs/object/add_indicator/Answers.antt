use Rattle.cp_log_text.proofs.Parts.{same, first}
use Rattle.cp_log_text.proofs.object.add_indicator.Goals as goal

pub returns : goal.returns
returns c = same (first c.in_ok-functor.ensures (first c.in_ok-name.ensures c.in_ok-number.ensures)) (cc)
