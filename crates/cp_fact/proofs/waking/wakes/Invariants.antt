use Rattle.std.proofs.Common.{◌≡◌, take}
use Rattle.cp_call.specs.Object.{woken_by, left_parked, callers_of}
use Rattle.cp_fact.proofs.waking.wakes.Given as goal

abbrev pub invariant-loop-row : goal.invariant-loop-row
invariant-loop-row l = record {
  callers : l.callers ≡ callers_of (woken_by l.fact (take l.row-index l.parked));
  left : l.left.items ≡ left_parked l.fact (take l.row-index l.parked);
}
