use Rattle.std.proofs.Common.{◌≡◌, take}
use Rattle.cp_declaration.specs.declared.indicator.Indicator.{Indicator as Pred}
use Rattle.cp_assemble.specs.Index.{places_in, places_of}
use Rattle.cp_assemble.proofs.places.Places.of.Given as goal

abbrev pub invariant-loop-at : goal.invariant-loop-at
invariant-loop-at l = (p : Pred) → places_in l.places p ≡ places_of 0 (take l.at l.clauses) p
