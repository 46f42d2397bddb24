use Rattle.std.proofs.Common.{take, map}
use Rattle.cp_log_text.specs.Line.{element_parts, number}
use Rattle.cp_log_text.specs.Building.{Gains}
use Rattle.cp_log_text.proofs.reply.add_callers.Given as goal

abbrev pub invariant-callers : goal.invariant-callers
invariant-callers l = Gains l.initial.line l.line (element_parts (map number (take l.caller-index l.callers)))
