use Rattle.std.proofs.Common.{◌≡◌}
use Rattle.cp_term.specs.Classes.{numbers_below}
use Rattle.cp_term.proofs.unify.own_places.Given as goal

abbrev pub invariant-loop-place : goal.invariant-loop-place
invariant-loop-place l = l.places.items ≡ numbers_below l.place
