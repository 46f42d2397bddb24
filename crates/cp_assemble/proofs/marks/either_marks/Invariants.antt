use Rattle.std.proofs.Common.{◌≡◌, ◌++◌, length}
use Rattle.cp_link.specs.Linked.{either_marks}
use Rattle.cp_assemble.proofs.marks.either_marks.Given as goal

abbrev pub invariant-marks : goal.invariant-marks
invariant-marks l = l.both ++ either_marks l.rest l.behind ≡ either_marks l.marks l.others

abbrev pub decreases-marks : goal.decreases-marks
decreases-marks l = length l.rest
