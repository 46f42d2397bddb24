use Rattle.std.proofs.Common.{◌≡◌, ◌++◌, take}
use Rattle.std.specs.List.{flat_map}
use Rattle.cp_log_text.specs.Line.{lines_text}
use Rattle.cp_log_text.specs.History.{object_lines}
use Rattle.cp_log_text.proofs.history.put_objects.Given as goal

abbrev pub invariant-objects : goal.invariant-objects
invariant-objects l = l.log ≡ l.initial.log ++ lines_text (flat_map object_lines (take l.object-index l.objects))
