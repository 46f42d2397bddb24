use Rattle.std.proofs.Common.{◌≡◌, take}
use Rattle.cp_builtin.proofs.parts.refs_of.Given as goal

abbrev pub invariant-places : goal.invariant-places
invariant-places l = l.refs ≡ take l.place-index l.places
