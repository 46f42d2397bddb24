use Rattle.std.proofs.Common.{◌≡◌}
use Rattle.cp_arith.specs.Frames.{meaning, value_at, AreLive, IsLiveNow, work}
use Rattle.cp_arith.proofs.evaluation.value_of.Given as goal

abbrev pub invariant-walk : goal.invariant-walk
invariant-walk l = AreLive l.heap l.frames × IsLiveNow l.heap l.now × (meaning l.heap l.frames l.now ≡ value_at l.heap l.fn.at.at)

abbrev pub decreases-walk : goal.decreases-walk
decreases-walk l = work l.heap l.frames l.now
