use Rattle.cp_log_text.proofs.Parts.{same, first}
use Rattle.cp_log_text.proofs.call.add_look.Goals as goal

pub returns : goal.returns
returns c = same (first c.in_ok-functor.ensures (first c.in_ok-term.ensures c.in_ok-add_cursor.ensures)) (cc)
