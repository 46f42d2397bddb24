use Rattle.std.proofs.Common.{◌≡◌, take}
use Rattle.cp_link.proofs.spot.copies.Given as goal

abbrev pub invariant-loop-written : goal.invariant-loop-written
invariant-loop-written l = l.all ≡ take l.written-index l.found
