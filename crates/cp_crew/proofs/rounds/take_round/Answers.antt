use Rattle.std.proofs.Common.{◌≡◌, length, sym, ap, subst, arith, None}
use Rattle.std.specs.Prelude.{All}
use Rattle.cp_out.specs.Port.{GoesOn}
use Rattle.cp_crew.specs.Crew.{HasGoneOn, NoneStopped}
use Rattle.cp_crew.specs.Staff.{IsSeated, HaveWorked, all_seated}
use Rattle.cp_crew.proofs.Going.{HasBegun, begun_by, begun_seated, seated_same, counts_done, hall_done, port_done, crew_done, fresh_outside, stays_without}
use Rattle.cp_crew.proofs.rounds.take_round.Goals as goal

pub close-requires-clause-own : goal.close-requires-clause-own
close-requires-clause-own g c = fresh_outside c.in-Ok-turn_port.made.0 c.in-Ok-turn_port.made.1 c.in-Ok-turn_port.ensures.made.2

pub returns-in_default-turn_hall : goal.returns-in_default-turn_hall
returns-in_default-turn_hall g c =
    subst (λ ss. HasGoneOn g.M.Machine.code g.M.Rule.Asks.asks g.C.Caller.went c.args.shells ss c.args.hall c.lost.result.hall c.args.port c.lost.result.port c.args.callers c.lost.result.callers c.lost.result.memory) (sym c.lost.ensures.shells)
    (subst (λ h. HasGoneOn g.M.Machine.code g.M.Rule.Asks.asks g.C.Caller.went c.args.shells c.args.shells c.args.hall h c.args.port c.lost.result.port c.args.callers c.lost.result.callers c.lost.result.memory) (sym c.lost.ensures.hall)
    (subst (λ cs. HasGoneOn g.M.Machine.code g.M.Rule.Asks.asks g.C.Caller.went c.args.shells c.args.shells c.args.hall None c.args.port c.lost.result.port c.args.callers cs c.lost.result.memory) (sym c.lost.ensures.callers)
    (subst (λ m. HasGoneOn g.M.Machine.code g.M.Rule.Asks.asks g.C.Caller.went c.args.shells c.args.shells c.args.hall None c.args.port c.lost.result.port c.args.callers c.args.callers m) (sym c.lost.ensures.memory)
    (stays_without g.M.Machine.code g.M.Rule.Asks.asks g.M.Rule.Asks.objects g.C.Caller.went c.args.shells c.args.hall c.args.port c.lost.result.port c.args.callers c.requires.callers_are
    (subst (λ p. GoesOn c.args.port p) (sym c.lost.ensures.port) (subst (λ p. GoesOn p c.close.result) c.in-Ok-turn_port.ensures.made.1 c.close.ensures.goes_on))))))

pub work_round-staff-requires-clause-seated : goal.work_round-staff-requires-clause-seated
work_round-staff-requires-clause-seated g c κs within =
    let b : HasBegun g.M.Machine.code g.M.Rule.Asks.asks g.M.Rule.Asks.objects c.args.shells c.args.hall c.args.port c.args.callers c.in-Ok-turn_hall.objects c.in-Ok-turn_port.made.0 c.in-Ok-turn_hall.hall_passes c.in-Ok-turn_port.made.1 =
    begun_by g.M.Machine.code g.M.Rule.Asks.asks g.M.Rule.Asks.objects g.C.Caller.went c.args.shells c.args.hall c.args.port c.args.callers c.in-Ok-turn_hall.objects c.in-Ok-turn_port.made.0 c.in-Ok-turn_hall.hall_passes c.in-Ok-turn_port.made.1 c.len-count.result c.len-count.ensures c.requires c.in-Ok-turn_hall.ensures.hall c.in-Ok-turn_port.ensures.made c.in-Ok-turn_hall.ensures.callers c.in-Ok-turn_hall.ensures.passes c.in-Ok-turn_hall.ensures.of_hall c.in-Ok-turn_hall.ensures.seen in
    subst (All (IsSeated g.M.Machine.code g.M.Rule.Asks.asks g.M.Rule.Asks.objects)) (sym (seated_same c.in-Ok-turn_hall.objects c.in-Ok-turn_port.made.0 c.args.shells c.into_vec.result.items c.in-Ok-turn_hall.hall_passes c.into_vec-2.result.items c.in-Ok-turn_port.made.1 c.into_vec-3.result.items c.args.callers c.into_vec-4.result.items c.into_vec.ensures.items c.into_vec-2.ensures.items c.into_vec-3.ensures.items c.into_vec-4.ensures.items))
    (begun_seated g.M.Machine.code g.M.Rule.Asks.asks g.M.Rule.Asks.objects g.C.Caller.went c.args.shells c.args.hall c.args.port c.args.callers c.in-Ok-turn_hall.objects c.in-Ok-turn_port.made.0 c.in-Ok-turn_hall.hall_passes c.in-Ok-turn_port.made.1 b)

pub close_round-requires-clause-few : goal.close_round-requires-clause-few
close_round-requires-clause-few g c =
    let b : HasBegun g.M.Machine.code g.M.Rule.Asks.asks g.M.Rule.Asks.objects c.args.shells c.args.hall c.args.port c.args.callers c.in-Ok-turn_hall.objects c.in-Ok-turn_port.made.0 c.in-Ok-turn_hall.hall_passes c.in-Ok-turn_port.made.1 =
    begun_by g.M.Machine.code g.M.Rule.Asks.asks g.M.Rule.Asks.objects g.C.Caller.went c.args.shells c.args.hall c.args.port c.args.callers c.in-Ok-turn_hall.objects c.in-Ok-turn_port.made.0 c.in-Ok-turn_hall.hall_passes c.in-Ok-turn_port.made.1 c.len-count.result c.len-count.ensures c.requires c.in-Ok-turn_hall.ensures.hall c.in-Ok-turn_port.ensures.made c.in-Ok-turn_hall.ensures.callers c.in-Ok-turn_hall.ensures.passes c.in-Ok-turn_hall.ensures.of_hall c.in-Ok-turn_hall.ensures.seen in
    let hw : HaveWorked g.M.Machine.code g.M.Rule.Asks.asks g.M.Rule.Asks.objects g.C.Caller.went (all_seated c.in-Ok-turn_hall.objects c.in-Ok-turn_port.made.0 c.args.shells c.in-Ok-turn_hall.hall_passes c.in-Ok-turn_port.made.1 c.args.callers) c.work_round-staff.result.shells.items c.work_round-staff.result.hall_passes.items c.work_round-staff.result.port_passes.items c.work_round-staff.result.callers.items =
    subst (λ l. HaveWorked g.M.Machine.code g.M.Rule.Asks.asks g.M.Rule.Asks.objects g.C.Caller.went l c.work_round-staff.result.shells.items c.work_round-staff.result.hall_passes.items c.work_round-staff.result.port_passes.items c.work_round-staff.result.callers.items) (seated_same c.in-Ok-turn_hall.objects c.in-Ok-turn_port.made.0 c.args.shells c.into_vec.result.items c.in-Ok-turn_hall.hall_passes c.into_vec-2.result.items c.in-Ok-turn_port.made.1 c.into_vec-3.result.items c.args.callers c.into_vec-4.result.items c.into_vec.ensures.items c.into_vec-2.ensures.items c.into_vec-3.ensures.items c.into_vec-4.ensures.items) c.work_round-staff.ensures in
    let n = counts_done g.M.Machine.code g.M.Rule.Asks.asks g.M.Rule.Asks.objects g.C.Caller.went c.args.shells c.args.hall c.args.port c.args.callers c.in-Ok-turn_hall.objects c.in-Ok-turn_port.made.0 c.in-Ok-turn_hall.hall_passes c.in-Ok-turn_port.made.1 b c.work_round-staff.result.shells.items c.work_round-staff.result.hall_passes.items c.work_round-staff.result.port_passes.items c.work_round-staff.result.callers.items hw in
    let long : length c.into_vec.result.items ≡ length c.args.shells = ap length c.into_vec.ensures.items in (
      omega (arith, n.0, c.work_round-staff.result.shells.ok.0, c.into_vec.result.ok.0, c.into_vec.ensures.len, long),
      omega (arith, n.1, c.work_round-staff.result.hall_passes.ok.0, c.into_vec.result.ok.0, c.into_vec.ensures.len, long),
      omega (arith, n.2, c.work_round-staff.result.port_passes.ok.0, c.into_vec.result.ok.0, c.into_vec.ensures.len, long),
      omega (arith, n.3, c.work_round-staff.result.callers.ok.0, c.into_vec.result.ok.0, c.into_vec.ensures.len, long),
    )

pub close_round-requires-clause-hall_passes : goal.close_round-requires-clause-hall_passes
close_round-requires-clause-hall_passes g c =
    let b : HasBegun g.M.Machine.code g.M.Rule.Asks.asks g.M.Rule.Asks.objects c.args.shells c.args.hall c.args.port c.args.callers c.in-Ok-turn_hall.objects c.in-Ok-turn_port.made.0 c.in-Ok-turn_hall.hall_passes c.in-Ok-turn_port.made.1 =
    begun_by g.M.Machine.code g.M.Rule.Asks.asks g.M.Rule.Asks.objects g.C.Caller.went c.args.shells c.args.hall c.args.port c.args.callers c.in-Ok-turn_hall.objects c.in-Ok-turn_port.made.0 c.in-Ok-turn_hall.hall_passes c.in-Ok-turn_port.made.1 c.len-count.result c.len-count.ensures c.requires c.in-Ok-turn_hall.ensures.hall c.in-Ok-turn_port.ensures.made c.in-Ok-turn_hall.ensures.callers c.in-Ok-turn_hall.ensures.passes c.in-Ok-turn_hall.ensures.of_hall c.in-Ok-turn_hall.ensures.seen in
    let hw : HaveWorked g.M.Machine.code g.M.Rule.Asks.asks g.M.Rule.Asks.objects g.C.Caller.went (all_seated c.in-Ok-turn_hall.objects c.in-Ok-turn_port.made.0 c.args.shells c.in-Ok-turn_hall.hall_passes c.in-Ok-turn_port.made.1 c.args.callers) c.work_round-staff.result.shells.items c.work_round-staff.result.hall_passes.items c.work_round-staff.result.port_passes.items c.work_round-staff.result.callers.items =
    subst (λ l. HaveWorked g.M.Machine.code g.M.Rule.Asks.asks g.M.Rule.Asks.objects g.C.Caller.went l c.work_round-staff.result.shells.items c.work_round-staff.result.hall_passes.items c.work_round-staff.result.port_passes.items c.work_round-staff.result.callers.items) (seated_same c.in-Ok-turn_hall.objects c.in-Ok-turn_port.made.0 c.args.shells c.into_vec.result.items c.in-Ok-turn_hall.hall_passes c.into_vec-2.result.items c.in-Ok-turn_port.made.1 c.into_vec-3.result.items c.args.callers c.into_vec-4.result.items c.into_vec.ensures.items c.into_vec-2.ensures.items c.into_vec-3.ensures.items c.into_vec-4.ensures.items) c.work_round-staff.ensures in
    hall_done g.M.Machine.code g.M.Rule.Asks.asks g.M.Rule.Asks.objects g.C.Caller.went c.args.shells c.args.hall c.args.port c.args.callers c.in-Ok-turn_hall.objects c.in-Ok-turn_port.made.0 c.in-Ok-turn_hall.hall_passes c.in-Ok-turn_port.made.1 b c.work_round-staff.result.shells.items c.work_round-staff.result.hall_passes.items c.work_round-staff.result.port_passes.items c.work_round-staff.result.callers.items hw

pub close_round-requires-clause-port_passes : goal.close_round-requires-clause-port_passes
close_round-requires-clause-port_passes g c =
    let b : HasBegun g.M.Machine.code g.M.Rule.Asks.asks g.M.Rule.Asks.objects c.args.shells c.args.hall c.args.port c.args.callers c.in-Ok-turn_hall.objects c.in-Ok-turn_port.made.0 c.in-Ok-turn_hall.hall_passes c.in-Ok-turn_port.made.1 =
    begun_by g.M.Machine.code g.M.Rule.Asks.asks g.M.Rule.Asks.objects g.C.Caller.went c.args.shells c.args.hall c.args.port c.args.callers c.in-Ok-turn_hall.objects c.in-Ok-turn_port.made.0 c.in-Ok-turn_hall.hall_passes c.in-Ok-turn_port.made.1 c.len-count.result c.len-count.ensures c.requires c.in-Ok-turn_hall.ensures.hall c.in-Ok-turn_port.ensures.made c.in-Ok-turn_hall.ensures.callers c.in-Ok-turn_hall.ensures.passes c.in-Ok-turn_hall.ensures.of_hall c.in-Ok-turn_hall.ensures.seen in
    let hw : HaveWorked g.M.Machine.code g.M.Rule.Asks.asks g.M.Rule.Asks.objects g.C.Caller.went (all_seated c.in-Ok-turn_hall.objects c.in-Ok-turn_port.made.0 c.args.shells c.in-Ok-turn_hall.hall_passes c.in-Ok-turn_port.made.1 c.args.callers) c.work_round-staff.result.shells.items c.work_round-staff.result.hall_passes.items c.work_round-staff.result.port_passes.items c.work_round-staff.result.callers.items =
    subst (λ l. HaveWorked g.M.Machine.code g.M.Rule.Asks.asks g.M.Rule.Asks.objects g.C.Caller.went l c.work_round-staff.result.shells.items c.work_round-staff.result.hall_passes.items c.work_round-staff.result.port_passes.items c.work_round-staff.result.callers.items) (seated_same c.in-Ok-turn_hall.objects c.in-Ok-turn_port.made.0 c.args.shells c.into_vec.result.items c.in-Ok-turn_hall.hall_passes c.into_vec-2.result.items c.in-Ok-turn_port.made.1 c.into_vec-3.result.items c.args.callers c.into_vec-4.result.items c.into_vec.ensures.items c.into_vec-2.ensures.items c.into_vec-3.ensures.items c.into_vec-4.ensures.items) c.work_round-staff.ensures in
    port_done g.M.Machine.code g.M.Rule.Asks.asks g.M.Rule.Asks.objects g.C.Caller.went c.args.shells c.args.hall c.args.port c.args.callers c.in-Ok-turn_hall.objects c.in-Ok-turn_port.made.0 c.in-Ok-turn_hall.hall_passes c.in-Ok-turn_port.made.1 b c.work_round-staff.result.shells.items c.work_round-staff.result.hall_passes.items c.work_round-staff.result.port_passes.items c.work_round-staff.result.callers.items hw

pub returns : goal.returns
returns g c =
    let b : HasBegun g.M.Machine.code g.M.Rule.Asks.asks g.M.Rule.Asks.objects c.args.shells c.args.hall c.args.port c.args.callers c.in-Ok-turn_hall.objects c.in-Ok-turn_port.made.0 c.in-Ok-turn_hall.hall_passes c.in-Ok-turn_port.made.1 =
    begun_by g.M.Machine.code g.M.Rule.Asks.asks g.M.Rule.Asks.objects g.C.Caller.went c.args.shells c.args.hall c.args.port c.args.callers c.in-Ok-turn_hall.objects c.in-Ok-turn_port.made.0 c.in-Ok-turn_hall.hall_passes c.in-Ok-turn_port.made.1 c.len-count.result c.len-count.ensures c.requires c.in-Ok-turn_hall.ensures.hall c.in-Ok-turn_port.ensures.made c.in-Ok-turn_hall.ensures.callers c.in-Ok-turn_hall.ensures.passes c.in-Ok-turn_hall.ensures.of_hall c.in-Ok-turn_hall.ensures.seen in
    let hw : HaveWorked g.M.Machine.code g.M.Rule.Asks.asks g.M.Rule.Asks.objects g.C.Caller.went (all_seated c.in-Ok-turn_hall.objects c.in-Ok-turn_port.made.0 c.args.shells c.in-Ok-turn_hall.hall_passes c.in-Ok-turn_port.made.1 c.args.callers) c.work_round-staff.result.shells.items c.work_round-staff.result.hall_passes.items c.work_round-staff.result.port_passes.items c.work_round-staff.result.callers.items =
    subst (λ l. HaveWorked g.M.Machine.code g.M.Rule.Asks.asks g.M.Rule.Asks.objects g.C.Caller.went l c.work_round-staff.result.shells.items c.work_round-staff.result.hall_passes.items c.work_round-staff.result.port_passes.items c.work_round-staff.result.callers.items) (seated_same c.in-Ok-turn_hall.objects c.in-Ok-turn_port.made.0 c.args.shells c.into_vec.result.items c.in-Ok-turn_hall.hall_passes c.into_vec-2.result.items c.in-Ok-turn_port.made.1 c.into_vec-3.result.items c.args.callers c.into_vec-4.result.items c.into_vec.ensures.items c.into_vec-2.ensures.items c.into_vec-3.ensures.items c.into_vec-4.ensures.items) c.work_round-staff.ensures in
    subst (λ ss. HasGoneOn g.M.Machine.code g.M.Rule.Asks.asks g.C.Caller.went c.args.shells ss c.args.hall c.close_round.result.hall c.args.port c.close_round.result.port c.args.callers c.close_round.result.callers c.close_round.result.memory) (sym c.close_round.ensures.shells)
    (subst (λ cs. HasGoneOn g.M.Machine.code g.M.Rule.Asks.asks g.C.Caller.went c.args.shells c.work_round-staff.result.shells.items c.args.hall c.close_round.result.hall c.args.port c.close_round.result.port c.args.callers cs c.close_round.result.memory) (sym c.close_round.ensures.callers)
    (crew_done g.M.Machine.code g.M.Rule.Asks.asks g.M.Rule.Asks.objects g.C.Caller.went c.args.shells c.args.hall c.args.port c.args.callers c.in-Ok-turn_hall.objects c.in-Ok-turn_port.made.0 c.in-Ok-turn_hall.hall_passes c.in-Ok-turn_port.made.1 b c.work_round-staff.result.shells.items c.work_round-staff.result.hall_passes.items c.work_round-staff.result.port_passes.items c.work_round-staff.result.callers.items hw c.close_round.result.hall c.close_round.result.port c.close_round.result.memory c.close_round.ensures.hall c.close_round.ensures.port c.close_round.ensures.missing
    (λ awake. subst NoneStopped c.close_round.ensures.shells (c.close_round.ensures.works awake))))
