use Rattle.std.proofs.Common.{◌≡◌, drop}
use Rattle.cp_code.specs.Properties.{term_at}
use Rattle.cp_props.specs.Patterns.{places_shown}
use Rattle.cp_props.proofs.place.place_of.Given as goal

abbrev pub invariant-loop-place : goal.invariant-loop-place
invariant-loop-place l = term_at l.var (places_shown l.heap l.place-items) ≡ term_at l.var (places_shown l.heap (drop l.place-index l.place-items))
