use Rattle.cp_log_text.proofs.Parts.{same, both}
use Rattle.cp_log_text.proofs.piece.add_numbers.Goals as goal

pub returns : goal.returns
returns c = same (both c.in_ok-add_numbers_of.ensures c.in_ok-word.ensures) (cc)
