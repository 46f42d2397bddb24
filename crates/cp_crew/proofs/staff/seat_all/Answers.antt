use Rattle.std.proofs.Common.{[], ◌∷◌, ◌++◌, List, sym, ◌∙◌, ap, subst, arith, rules, append-nil}
use Rattle.std.specs.Prelude.{All}
use mathlib.Core.List.{reverse}
use Rattle.cp_crew.specs.Staff.{SeatedView, IsSeated, seated, all_seated}
use Rattle.cp_crew.proofs.Gathering.{All-middle, next_is, seats_next, all_are_seated}
use Rattle.cp_crew.proofs.staff.seat_all.Goals as goal

pub loop-shell-init : goal.loop-shell-init
loop-shell-init g c = record {
  seating = record {
    hall_passes = c.requires.hall_passes;
    port_passes = c.requires.port_passes;
    callers = c.requires.callers;
    rest = ap (λ (ws : List (SeatedView g.row.M.Denot g.row.S.Denot g.row.C.Denot)). all_seated c.args.hall.now c.args.port.now c.args.staff.shells.items c.args.staff.hall_passes.items c.args.staff.port_passes.items c.args.staff.callers.items ++ reverse ws) c.requires.places.0
        ∙ append-nil (all_seated c.args.hall.now c.args.port.now c.args.staff.shells.items c.args.staff.hall_passes.items c.args.staff.port_passes.items c.args.staff.callers.items);
  };
  room = search rules;
}

pub seat_one-worker-requires : goal.seat_one-worker-requires
seat_one-worker-requires g c =
    let all : List (SeatedView g.row.M.Denot g.row.S.Denot g.row.C.Denot) = all_seated c.args.hall.now c.args.port.now c.args.staff.shells.items c.args.staff.hall_passes.items c.args.staff.port_passes.items c.args.staff.callers.items in
    let n = next_is c.args.hall.now c.args.port.now all c.loop-shell.shells.items c.loop-shell.hall_passes.items c.loop-shell.port_passes.items c.loop-shell.callers.items c.loop-shell.workers.items
    c.pop.new.self.items c.pop-in-Some.new.self.items c.pop-in-Some-2.new.self.items c.pop-in-Some-3.new.self.items c.in-Some.shell c.in-Some-pop.hall_pass c.in-Some-pop-2.port_pass c.in-Some-pop-3.caller
    c.in-Some.ensures.items c.in-Some-pop.ensures.items c.in-Some-pop-2.ensures.items c.in-Some-pop-3.ensures.items c.loop-shell.invariant.seating in
    let w : SeatedView g.row.M.Denot g.row.S.Denot g.row.C.Denot = seated c.args.hall.now c.args.port.now c.in-Some.shell c.in-Some-pop.hall_pass c.in-Some-pop-2.port_pass c.in-Some-pop-3.caller in
    All-middle (IsSeated g.M.Machine.code g.M.Rule.Asks.asks g.M.Rule.Asks.objects)
    (all_seated c.args.hall.now c.args.port.now c.pop.new.self.items c.pop-in-Some.new.self.items c.pop-in-Some-2.new.self.items c.pop-in-Some-3.new.self.items) w (reverse c.loop-shell.workers.items)
    (subst (All (IsSeated g.M.Machine.code g.M.Rule.Asks.asks g.M.Rule.Asks.objects)) (sym n.3) c.requires.seated)

pub loop-shell-preserved : goal.loop-shell-preserved
loop-shell-preserved g c =
    let all : List (SeatedView g.row.M.Denot g.row.S.Denot g.row.C.Denot) = all_seated c.args.hall.now c.args.port.now c.args.staff.shells.items c.args.staff.hall_passes.items c.args.staff.port_passes.items c.args.staff.callers.items in
    let n = next_is c.args.hall.now c.args.port.now all c.loop-shell.shells.items c.loop-shell.hall_passes.items c.loop-shell.port_passes.items c.loop-shell.callers.items c.loop-shell.workers.items
    c.pop.new.self.items c.pop-in-Some.new.self.items c.pop-in-Some-2.new.self.items c.pop-in-Some-3.new.self.items c.in-Some.shell c.in-Some-pop.hall_pass c.in-Some-pop-2.port_pass c.in-Some-pop-3.caller
    c.in-Some.ensures.items c.in-Some-pop.ensures.items c.in-Some-pop-2.ensures.items c.in-Some-pop-3.ensures.items c.loop-shell.invariant.seating in
    let w : SeatedView g.row.M.Denot g.row.S.Denot g.row.C.Denot = seated c.args.hall.now c.args.port.now c.in-Some.shell c.in-Some-pop.hall_pass c.in-Some-pop-2.port_pass c.in-Some-pop-3.caller in
    record {
      seating = seats_next c.args.hall.now c.args.port.now all c.loop-shell.workers.items c.push_reserved.new.self.items c.pop.new.self.items c.pop-in-Some.new.self.items c.pop-in-Some-2.new.self.items c.pop-in-Some-3.new.self.items w n
          (c.push_reserved.ensures.items ∙ ap (λ x. c.loop-shell.workers.items ++ x ∷ []) c.seat_one-worker.ensures);
      room = search rules;
    }

pub returns : goal.returns
returns g c =
    c.reverse.ensures.items ∙ all_are_seated c.args.hall.now c.args.port.now (all_seated c.args.hall.now c.args.port.now c.args.staff.shells.items c.args.staff.hall_passes.items c.args.staff.port_passes.items c.args.staff.callers.items)
    c.loop-shell.shells.items c.loop-shell.hall_passes.items c.loop-shell.port_passes.items c.loop-shell.callers.items c.loop-shell.workers.items c.loop-shell.invariant.seating
    (omega (arith, c.loop-shell.shells.ok.0, c.in_default.ensures.cases))
