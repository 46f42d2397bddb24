use Rattle.std.proofs.Common.{length}
use mathlib.Core.List.{reverse}
use Rattle.cp_turn_hall.proofs.TakingOut.{IsMidway}
use Rattle.cp_turn_hall.proofs.hall.TurnHall.close.Given as goal

abbrev pub invariant-loop-turnstile : goal.invariant-loop-turnstile
invariant-loop-turnstile l = IsMidway l.fn.self l.fn.passes l.turnstiles.items (reverse l.rows.items) l.hall_passes.items

abbrev pub decreases-loop-turnstile : goal.decreases-loop-turnstile
decreases-loop-turnstile l = length l.turnstiles.items
