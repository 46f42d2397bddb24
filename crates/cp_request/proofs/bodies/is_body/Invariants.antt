use Rattle.std.proofs.Common.{◌≡◌, ℕ, List}
use Rattle.cp_request.specs.Parts.{is_body_at, are_bodies, ArePlaces, cells_at}
use Rattle.cp_request.proofs.bodies.is_body.Given as goal

abbrev pub invariant-parts : goal.invariant-parts
invariant-parts l = ArePlaces l.heap l.left × ((m : List ℕ) → is_body_at l.heap m l.fn.at ≡ are_bodies l.heap m l.left)

abbrev pub decreases-parts : goal.decreases-parts
decreases-parts l = cells_at l.heap l.left
