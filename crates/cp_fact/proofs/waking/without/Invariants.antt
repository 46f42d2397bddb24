use Rattle.std.proofs.Common.{◌≡◌, take}
use Rattle.cp_fact.specs.Effect.{without_caller}
use Rattle.cp_fact.proofs.waking.without.Given as goal

abbrev pub invariant-loop-row : goal.invariant-loop-row
invariant-loop-row l = l.left.items ≡ without_caller l.caller (take l.row-index l.parked)
