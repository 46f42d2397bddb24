use Rattle.std.proofs.Common.{take, map}
use Rattle.cp_log_text.specs.Line.{element_parts, number}
use Rattle.cp_log_text.specs.Building.{Gains}
use Rattle.cp_log_text.proofs.piece.add_numbers_of.Given as goal

abbrev pub invariant-bytes : goal.invariant-bytes
invariant-bytes l = Gains l.initial.line l.line (element_parts (map number (take l.byte-index l.bytes)))
