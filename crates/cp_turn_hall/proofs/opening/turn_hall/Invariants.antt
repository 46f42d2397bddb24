use Rattle.std.proofs.Common.{◌≡◌, ◌++◌, length, map}
use Rattle.std.specs.Prelude.{All}
use Rattle.cp_hall.specs.Hall.{hall_object, AreLegal}
use Rattle.cp_turn_hall.specs.Behind.{hall_at_start, AreNew}
use Rattle.cp_turn_hall.proofs.opening.turn_hall.Given as goal

abbrev pub invariant-loop-row : goal.invariant-loop-row
invariant-loop-row l = record {
  hall : hall_at_start l.turnstiles.items ++ map hall_object l.row-iterator.rest.items ≡ l.fn.hall;
  legal : AreLegal (map hall_object l.row-iterator.rest.items);
  callers : All (λ t. t.callers ≡ l.callers) l.turnstiles.items;
  long : length l.hall_passes.items ≡ l.callers;
  new : AreNew l.turnstiles.items l.hall_passes.items;
}
