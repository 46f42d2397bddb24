use Rattle.std.proofs.Common.{◌≡◌, List, length, ◌∙◌, ap, subst, arith}
use Rattle.cp_crew.specs.Staff.{SeatedView, AllWorked, all_seated}
use Rattle.cp_crew.proofs.Gathering.{seated_length}
use Rattle.cp_crew.proofs.Working.{all_worked}
use Rattle.cp_crew.proofs.lend.work_round.Goals as goal

pub returns : goal.returns
returns g c =
    let before : List (SeatedView g.row.M.Denot g.row.S.Denot g.row.C.Denot) = all_seated c.args.hall.now c.args.port.now c.args.staff.shells.items c.args.staff.hall_passes.items c.args.staff.port_passes.items c.args.staff.callers.items in
    let now : List (SeatedView g.row.M.Denot g.row.S.Denot g.row.C.Denot) = c.lend.new.workers.items in
    record {
      now = now;
      worked = subst (λ l. AllWorked g.M.Machine.code g.C.Caller.went l now) c.seat_all-workers.ensures (all_worked g.M.Machine.code g.C.Caller.went c.seat_all-workers.result.items now c.lend.ensures.long c.lend.ensures.worked);
      seated = c.dismiss_all.ensures.seated;
      shells_are = c.dismiss_all.ensures.shells;
      hall_passes_are = c.dismiss_all.ensures.hall_passes;
      port_passes_are = c.dismiss_all.ensures.port_passes;
      callers_are = c.dismiss_all.ensures.callers;
    }

pub dismiss_all-requires-clause-shells : goal.dismiss_all-requires-clause-shells
dismiss_all-requires-clause-shells g c =
    let long : length c.seat_all-workers.result.items ≡ length c.args.staff.shells.items = ap length c.seat_all-workers.ensures ∙ seated_length c.args.hall.now c.args.port.now c.args.staff.shells.items c.args.staff.hall_passes.items c.args.staff.port_passes.items c.args.staff.callers.items c.requires.hall_passes c.requires.port_passes c.requires.callers in
    (c.requires.shell_room.0, omega (arith, c.lend.ensures.long, long, c.requires.shell_room.1))

pub dismiss_all-requires-clause-hall_passes : goal.dismiss_all-requires-clause-hall_passes
dismiss_all-requires-clause-hall_passes g c =
    let long : length c.seat_all-workers.result.items ≡ length c.args.staff.shells.items = ap length c.seat_all-workers.ensures ∙ seated_length c.args.hall.now c.args.port.now c.args.staff.shells.items c.args.staff.hall_passes.items c.args.staff.port_passes.items c.args.staff.callers.items c.requires.hall_passes c.requires.port_passes c.requires.callers in
    (c.requires.hall_room.0, omega (arith, c.lend.ensures.long, long, c.requires.hall_room.1))

pub dismiss_all-requires-clause-port_passes : goal.dismiss_all-requires-clause-port_passes
dismiss_all-requires-clause-port_passes g c =
    let long : length c.seat_all-workers.result.items ≡ length c.args.staff.shells.items = ap length c.seat_all-workers.ensures ∙ seated_length c.args.hall.now c.args.port.now c.args.staff.shells.items c.args.staff.hall_passes.items c.args.staff.port_passes.items c.args.staff.callers.items c.requires.hall_passes c.requires.port_passes c.requires.callers in
    (c.requires.port_room.0, omega (arith, c.lend.ensures.long, long, c.requires.port_room.1))

pub dismiss_all-requires-clause-callers : goal.dismiss_all-requires-clause-callers
dismiss_all-requires-clause-callers g c =
    let long : length c.seat_all-workers.result.items ≡ length c.args.staff.shells.items = ap length c.seat_all-workers.ensures ∙ seated_length c.args.hall.now c.args.port.now c.args.staff.shells.items c.args.staff.hall_passes.items c.args.staff.port_passes.items c.args.staff.callers.items c.requires.hall_passes c.requires.port_passes c.requires.callers in
    (c.requires.caller_room.0, omega (arith, c.lend.ensures.long, long, c.requires.caller_room.1))
