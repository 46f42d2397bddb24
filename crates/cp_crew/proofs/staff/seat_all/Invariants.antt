use Rattle.std.proofs.Common.{◌+◌, ◌≤◌, length, vec_len}
use Rattle.std.specs.Prelude.{vec_capacity}
use Rattle.cp_crew.specs.Staff.{all_seated}
use Rattle.cp_crew.proofs.Gathering.{IsSeating}
use Rattle.cp_crew.proofs.staff.seat_all.Given as goal

abbrev pub invariant-loop-shell : goal.invariant-loop-shell
invariant-loop-shell g l = record {
  seating : IsSeating l.fn.hall l.fn.port (all_seated l.fn.hall l.fn.port l.fn.staff.shells.items l.fn.staff.hall_passes.items l.fn.staff.port_passes.items l.fn.staff.callers.items) l.shells.items l.hall_passes.items l.port_passes.items l.callers.items l.workers.items;
  room : length l.shells.items + vec_len l.workers ≤ vec_capacity l.workers;
}

abbrev pub decreases-loop-shell : goal.decreases-loop-shell
decreases-loop-shell g l = length l.shells.items
