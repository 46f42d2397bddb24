use Rattle.std.proofs.Common.{ap}
use Rattle.cp_log_text.specs.Port.{piece_parts}
use Rattle.cp_log_text.proofs.Cuts.{a_text, no_text}
use Rattle.cp_log_text.proofs.Parts.{same}
use Rattle.cp_log_text.proofs.piece.add_bytes.Goals as goal

pub returns-in_default : goal.returns-in_default
returns-in_default c = no_text c.args.bytes.now c.in_default.ensures.cases.0 c.in_ok-add_numbers.ensures

pub returns : goal.returns
returns c = a_text c.args.bytes.now c.in-Ok.ensures.cases.1 (same c.in_ok-add_text.ensures (ap piece_parts c.in-Ok.ensures.cases.0))
