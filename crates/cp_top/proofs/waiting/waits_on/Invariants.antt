use Rattle.std.proofs.Common.{◌≡◌, drop}
use Rattle.cp_top.specs.Ending.{waits_on}
use Rattle.cp_top.proofs.waiting.waits_on.Given as goal

abbrev pub invariant-loop-engine : goal.invariant-loop-engine
invariant-loop-engine l = waits_on l.engines ≡ waits_on (drop l.engine-index l.engines)
