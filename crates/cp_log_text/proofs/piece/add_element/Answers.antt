use Rattle.cp_log_text.proofs.Parts.{same, first}
use Rattle.cp_log_text.proofs.piece.add_element.Goals as goal

pub returns : goal.returns
returns c = same (first c.in_ok-functor.ensures c.in_ok-word.ensures) (cc)
