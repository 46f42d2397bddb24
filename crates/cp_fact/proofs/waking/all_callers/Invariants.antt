use Rattle.std.proofs.Common.{◌≡◌, take}
use Rattle.cp_call.specs.Object.{callers_of}
use Rattle.cp_fact.proofs.waking.all_callers.Given as goal

abbrev pub invariant-loop-row : goal.invariant-loop-row
invariant-loop-row l = l.callers ≡ callers_of (take l.row-index l.parked)
