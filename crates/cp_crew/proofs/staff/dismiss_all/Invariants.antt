use Rattle.std.proofs.Common.{◌+◌, ◌≤◌, length, vec_len}
use Rattle.std.specs.Prelude.{vec_capacity}
use Rattle.cp_crew.proofs.Gathering.{IsDismissing}
use Rattle.cp_crew.proofs.staff.dismiss_all.Given as goal

abbrev pub invariant-loop-worker : goal.invariant-loop-worker
invariant-loop-worker g l = record {
  gone : IsDismissing g.M.Machine.code g.M.Rule.Asks.asks g.M.Rule.Asks.objects l.fn.workers.items l.workers.items l.staff.shells.items l.staff.hall_passes.items l.staff.port_passes.items l.staff.callers.items;
  shells : length l.workers.items + vec_len l.staff.shells ≤ vec_capacity l.staff.shells;
  hall_passes : length l.workers.items + vec_len l.staff.hall_passes ≤ vec_capacity l.staff.hall_passes;
  port_passes : length l.workers.items + vec_len l.staff.port_passes ≤ vec_capacity l.staff.port_passes;
  callers : length l.workers.items + vec_len l.staff.callers ≤ vec_capacity l.staff.callers;
}

abbrev pub decreases-loop-worker : goal.decreases-loop-worker
decreases-loop-worker g l = length l.workers.items
