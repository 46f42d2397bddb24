use Rattle.std.proofs.Common.{◌≡◌, ◌++◌, take, map}
use Rattle.cp_log_text.specs.Line.{lines_text}
use Rattle.cp_log_text.specs.History.{entry_line}
use Rattle.cp_log_text.proofs.history.put_entries.Given as goal

abbrev pub invariant-entries : goal.invariant-entries
invariant-entries l = l.log ≡ l.initial.log ++ lines_text (map entry_line (take l.entry-index l.entries))
