use Rattle.std.proofs.Common.{take}
use Rattle.cp_log_text.specs.Line.{element_parts}
use Rattle.cp_log_text.specs.Building.{Gains}
use Rattle.cp_log_text.proofs.remote.add_elements.Given as goal

abbrev pub invariant-terms : goal.invariant-terms
invariant-terms l = Gains l.initial.line l.line (element_parts (take l.term-index l.terms))
