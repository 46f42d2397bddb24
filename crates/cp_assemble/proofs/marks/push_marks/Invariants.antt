use Rattle.std.proofs.Common.{◌≡◌, ◌++◌, take}
use Rattle.cp_assemble.proofs.marks.push_marks.Given as goal

abbrev pub invariant-loop-mark : goal.invariant-loop-mark
invariant-loop-mark l = l.all ≡ l.initial.all ++ take l.mark-index l.marks
