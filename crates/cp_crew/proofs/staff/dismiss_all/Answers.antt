use Rattle.std.proofs.Common.{◌∙◌, ap, subst, arith, rules}
use Rattle.std.specs.Prelude.{All, map}
use Rattle.cp_crew.specs.Staff.{SeatedView, IsSeated, hall_pass}
use Rattle.cp_crew.proofs.Gathering.{none_gone, one_gone, all_gone}
use Rattle.cp_crew.proofs.staff.dismiss_all.Goals as goal

pub loop-worker-init : goal.loop-worker-init
loop-worker-init g c = record {
  gone = none_gone g.M.Machine.code g.M.Rule.Asks.asks g.M.Rule.Asks.objects c.args.workers.items c.args.room.shells.items c.args.room.hall_passes.items c.args.room.port_passes.items c.args.room.callers.items
      c.requires.shells.0 c.requires.hall_passes.0 c.requires.port_passes.0 c.requires.callers.0;
  shells = search rules;
  hall_passes = search rules;
  port_passes = search rules;
  callers = search rules;
}

pub loop-worker-preserved : goal.loop-worker-preserved
loop-worker-preserved g c = record {
  gone = one_gone g.M.Machine.code g.M.Rule.Asks.asks g.M.Rule.Asks.objects c.args.workers.items c.loop-worker.workers.items c.pop.new.self.items c.in-Some.worker
      c.loop-worker.staff.shells.items c.dismiss_one.new.staff.shells.items c.loop-worker.staff.hall_passes.items c.dismiss_one.new.staff.hall_passes.items
      c.loop-worker.staff.port_passes.items c.dismiss_one.new.staff.port_passes.items c.loop-worker.staff.callers.items c.dismiss_one.new.staff.callers.items
      c.in-Some.ensures.items c.loop-worker.invariant.gone c.dismiss_one.ensures.seated
      c.dismiss_one.ensures.shells.0 c.dismiss_one.ensures.hall_passes.0 c.dismiss_one.ensures.port_passes.0 c.dismiss_one.ensures.callers.0;
  shells = search rules;
  hall_passes = search rules;
  port_passes = search rules;
  callers = search rules;
}

pub returns-clause-shells : goal.returns-clause-shells
returns-clause-shells g c = c.reversed.ensures.shells ∙ (c.loop-worker.invariant.gone.shells ∙ ap (map (λ (w : SeatedView g.row.M.Denot g.row.S.Denot g.row.C.Denot). w.shell))
    (all_gone g.M.Machine.code g.M.Rule.Asks.asks g.M.Rule.Asks.objects c.args.workers.items c.loop-worker.workers.items c.loop-worker.staff.shells.items c.loop-worker.staff.hall_passes.items
    c.loop-worker.staff.port_passes.items c.loop-worker.staff.callers.items c.loop-worker.invariant.gone (omega (arith, c.loop-worker.workers.ok.0, c.in_default.ensures.cases))))

pub returns-clause-hall_passes : goal.returns-clause-hall_passes
returns-clause-hall_passes g c = c.reversed.ensures.hall_passes ∙ (c.loop-worker.invariant.gone.hall_passes ∙ ap (map hall_pass)
    (all_gone g.M.Machine.code g.M.Rule.Asks.asks g.M.Rule.Asks.objects c.args.workers.items c.loop-worker.workers.items c.loop-worker.staff.shells.items c.loop-worker.staff.hall_passes.items
    c.loop-worker.staff.port_passes.items c.loop-worker.staff.callers.items c.loop-worker.invariant.gone (omega (arith, c.loop-worker.workers.ok.0, c.in_default.ensures.cases))))

pub returns-clause-port_passes : goal.returns-clause-port_passes
returns-clause-port_passes g c = c.reversed.ensures.port_passes ∙ (c.loop-worker.invariant.gone.port_passes ∙ ap (map (λ (w : SeatedView g.row.M.Denot g.row.S.Denot g.row.C.Denot). w.port.pass))
    (all_gone g.M.Machine.code g.M.Rule.Asks.asks g.M.Rule.Asks.objects c.args.workers.items c.loop-worker.workers.items c.loop-worker.staff.shells.items c.loop-worker.staff.hall_passes.items
    c.loop-worker.staff.port_passes.items c.loop-worker.staff.callers.items c.loop-worker.invariant.gone (omega (arith, c.loop-worker.workers.ok.0, c.in_default.ensures.cases))))

pub returns-clause-callers : goal.returns-clause-callers
returns-clause-callers g c = c.reversed.ensures.callers ∙ (c.loop-worker.invariant.gone.callers ∙ ap (map (λ (w : SeatedView g.row.M.Denot g.row.S.Denot g.row.C.Denot). w.caller))
    (all_gone g.M.Machine.code g.M.Rule.Asks.asks g.M.Rule.Asks.objects c.args.workers.items c.loop-worker.workers.items c.loop-worker.staff.shells.items c.loop-worker.staff.hall_passes.items
    c.loop-worker.staff.port_passes.items c.loop-worker.staff.callers.items c.loop-worker.invariant.gone (omega (arith, c.loop-worker.workers.ok.0, c.in_default.ensures.cases))))

pub returns-clause-seated : goal.returns-clause-seated
returns-clause-seated g c = subst (All (IsSeated g.M.Machine.code g.M.Rule.Asks.asks g.M.Rule.Asks.objects))
    (all_gone g.M.Machine.code g.M.Rule.Asks.asks g.M.Rule.Asks.objects c.args.workers.items c.loop-worker.workers.items c.loop-worker.staff.shells.items c.loop-worker.staff.hall_passes.items
    c.loop-worker.staff.port_passes.items c.loop-worker.staff.callers.items c.loop-worker.invariant.gone (omega (arith, c.loop-worker.workers.ok.0, c.in_default.ensures.cases)))
    c.loop-worker.invariant.gone.seated
