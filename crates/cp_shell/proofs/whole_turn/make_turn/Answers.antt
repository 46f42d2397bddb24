use Rattle.std.proofs.Common.{◌++◌, length, rules}
use Rattle.cp_shell.proofs.Calling.{at_for, life_as, leads_on, leads_by_one, added_then, made_then, turned_then}
use Rattle.cp_shell.proofs.whole_turn.make_turn.Goals as goal

pub returns-in_err-call_due-in-None-clause-added : goal.returns-in_err-call_due-in-None-clause-added
returns-in_err-call_due-in-None-clause-added g c =
    let whole = added_then (g.A.Asker.objects c.args.asker.now) (g.A.Asker.seen c.args.asker.now c.args.number) (g.A.Asker.seen c.make_event.new.asker c.args.number) (g.P.Writer.wrote c.args.port.now c.args.number) (g.P.Writer.wrote c.make_event.new.port c.args.number) c.args.number c.args.items.now.items c.make_event.new.items.items c.call_due.new.items.items c.in_ok-turn.ensures.added.0 c.in_err-call_due-in-None.ensures.called.0 c.in_ok-turn.ensures.added.1 c.in_ok-turn.ensures.added.2 c.in_err-call_due-in-None.ensures.called.1 c.in_err-call_due-in-None.ensures.called.2 in
    (c.in_ok-turn.ensures.added.0 ++ c.in_err-call_due-in-None.ensures.called.0, whole.0, whole.1, search rules)

pub returns-in_ok-call_due-in-None-clause-added : goal.returns-in_ok-call_due-in-None-clause-added
returns-in_ok-call_due-in-None-clause-added g c =
    let whole = added_then (g.A.Asker.objects c.args.asker.now) (g.A.Asker.seen c.args.asker.now c.args.number) (g.A.Asker.seen c.make_event.new.asker c.args.number) (g.P.Writer.wrote c.args.port.now c.args.number) (g.P.Writer.wrote c.make_event.new.port c.args.number) c.args.number c.args.items.now.items c.make_event.new.items.items c.call_due.new.items.items c.in_ok-turn.ensures.added.0 c.in_ok-call_due-in-None.ensures.called.0 c.in_ok-turn.ensures.added.1 c.in_ok-turn.ensures.added.2 c.in_ok-call_due-in-None.ensures.called.1 c.in_ok-call_due-in-None.ensures.called.2 in (
      c.in_ok-turn.ensures.added.0 ++ c.in_ok-call_due-in-None.ensures.called.0,
      whole.0,
      whole.1,
      leads_on g.C.Caller.went c.args.caller.now c.in_ok-turn.ensures.added.0 c.in_ok-call_due-in-None.ensures.called.0 c.args.caller.now c.call_due.new.caller
          (leads_by_one g.C.Caller.went c.args.caller.now c.args.items.now.items c.make_event.new.items.items c.in_ok-turn.ensures.added.0 c.in_ok-turn.ensures.once c.in_ok-turn.ensures.added.1)
          c.in_ok-call_due-in-None.ensures.called.3,
    )

pub returns-in-Some-clause-added : goal.returns-in-Some-clause-added
returns-in-Some-clause-added g c = (
  c.in_ok-turn.ensures.added.0,
  c.in_ok-turn.ensures.added.1,
  c.in_ok-turn.ensures.added.2,
  leads_by_one g.C.Caller.went c.args.caller.now c.args.items.now.items c.make_event.new.items.items c.in_ok-turn.ensures.added.0 c.in_ok-turn.ensures.once c.in_ok-turn.ensures.added.1,
)

pub returns-in_ok-call_due-in-None-clause-turned : goal.returns-in_ok-call_due-in-None-clause-turned
returns-in_ok-call_due-in-None-clause-turned g c =
    turned_then (g.M.Rule.Asks.asks (g.M.Machine.code c.args.machine.now)) (g.A.Asker.objects c.args.asker.now) (g.M.Machine.continuation c.make_event.new.machine) (g.M.Machine.continuation c.call_due.new.machine) (g.M.Machine.failed c.make_event.new.machine) (g.M.Machine.failed c.call_due.new.machine) c.args.items.now.items c.make_event.new.items.items c.call_due.new.items.items c.in_ok-call_due-in-None.ensures.called.0 (g.A.Asker.seen c.make_event.new.asker c.args.number) c.args.number c.in_ok-turn.turn.stage c.in_ok-call_due-in-None.field-0 c.in_ok-turn.turn.parked
    c.in_ok-turn.ensures.turned c.in-None.is c.in_ok-call_due-in-None.ensures.called.1 c.in_ok-call_due-in-None.ensures.called.2
    (at_for g.M.Rule.Asks.asks g.M.Rule.Asks.objects (g.M.Machine.code c.make_event.new.machine) (g.M.Machine.code c.args.machine.now) (length (g.A.Asker.objects c.args.asker.now)) (g.M.Machine.continuation c.call_due.new.machine) (g.M.Machine.failed c.call_due.new.machine) c.call_due.new.items.items c.in_ok-call_due-in-None.field-0 c.make_event.ensures.code c.requires.objects c.in_ok-call_due-in-None.ensures.at)
    (life_as g.M.Rule.Asks.asks (g.M.Machine.code c.make_event.new.machine) (g.M.Machine.code c.args.machine.now) c.make_event.new.items.items c.call_due.new.items.items c.make_event.ensures.code c.in_ok-call_due-in-None.ensures.life)

pub returns-in_err-call_due-in-None-clause-once : goal.returns-in_err-call_due-in-None-clause-once
returns-in_err-call_due-in-None-clause-once g c =
    made_then (g.M.Rule.Asks.asks (g.M.Machine.code c.args.machine.now)) (g.A.Asker.objects c.args.asker.now) (g.M.Machine.continuation c.make_event.new.machine) (g.M.Machine.failed c.make_event.new.machine) c.args.items.now.items c.make_event.new.items.items c.call_due.new.items.items c.in_err-call_due-in-None.ensures.called.0 (g.A.Asker.seen c.make_event.new.asker c.args.number) c.args.number c.in_ok-turn.turn.stage c.in_ok-turn.turn.parked
    c.in_ok-turn.ensures.turned c.in-None.is c.in_err-call_due-in-None.ensures.called.1 c.in_err-call_due-in-None.ensures.called.2

pub returns-in_ok-call_due-in-None-clause-once : goal.returns-in_ok-call_due-in-None-clause-once
returns-in_ok-call_due-in-None-clause-once g c =
    made_then (g.M.Rule.Asks.asks (g.M.Machine.code c.args.machine.now)) (g.A.Asker.objects c.args.asker.now) (g.M.Machine.continuation c.make_event.new.machine) (g.M.Machine.failed c.make_event.new.machine) c.args.items.now.items c.make_event.new.items.items c.call_due.new.items.items c.in_ok-call_due-in-None.ensures.called.0 (g.A.Asker.seen c.make_event.new.asker c.args.number) c.args.number c.in_ok-turn.turn.stage c.in_ok-turn.turn.parked
    c.in_ok-turn.ensures.turned c.in-None.is c.in_ok-call_due-in-None.ensures.called.1 c.in_ok-call_due-in-None.ensures.called.2
