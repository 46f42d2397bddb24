use Rattle.std.proofs.Common.{◌≡◌}
use Rattle.cp_turn.proofs.turn.spin.Given as goal

abbrev pub invariant-loop-round : goal.invariant-loop-round
invariant-loop-round g l = (l.seat.table_id ≡ l.initial.seat.table_id) × (l.seat.id ≡ l.initial.seat.id) × (l.seat.me ≡ l.initial.seat.me)
