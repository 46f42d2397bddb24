use Rattle.std.specs.Prelude.{map}
use Rattle.cp_hall.specs.Hall.{EndsWith, hall_object}
use Rattle.cp_hall.proofs.hall.PlainHall.into_ends.Given as goal

abbrev pub invariant-loop-row : goal.invariant-loop-row
invariant-loop-row l = EndsWith l.fn.self l.ends (map hall_object l.row-iterator.rest.items)
