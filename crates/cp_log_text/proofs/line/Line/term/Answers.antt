use Rattle.cp_log_text.proofs.Parts.{same}
use Rattle.cp_log_text.proofs.line.Line.term.Goals as goal

pub returns : goal.returns
returns c = same c.in_ok-shifted_cells.ensures (cc)
