use Rattle.std.proofs.Common.{◌≡◌, ◌++◌, take}
use Rattle.std.specs.List.{flat_map}
use Rattle.cp_log_text.specs.Line.{lines_text}
use Rattle.cp_log_text.specs.Engine.{engine_lines}
use Rattle.cp_log_text.proofs.engine.put_engines.Given as goal

abbrev pub invariant-engines : goal.invariant-engines
invariant-engines l = l.log ≡ l.initial.log ++ lines_text (flat_map engine_lines (take l.engine-index l.engines))
