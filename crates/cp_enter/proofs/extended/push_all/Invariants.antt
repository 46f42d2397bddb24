use Rattle.std.proofs.Common.{◌≡◌, ◌++◌, take}
use Rattle.cp_enter.proofs.extended.push_all.Given as goal

abbrev pub invariant-places : goal.invariant-places
invariant-places l = l.places ≡ l.fn.places ++ take l.place-index l.more
