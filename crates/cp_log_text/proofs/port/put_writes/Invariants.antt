use Rattle.std.proofs.Common.{◌≡◌, ◌++◌, take, map}
use Rattle.cp_log_text.specs.Line.{lines_text}
use Rattle.cp_log_text.specs.Port.{write_line}
use Rattle.cp_log_text.proofs.port.put_writes.Given as goal

abbrev pub invariant-writes : goal.invariant-writes
invariant-writes l = l.log ≡ l.initial.log ++ lines_text (map write_line (take l.write-index l.writes))
