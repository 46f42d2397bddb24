use Rattle.cp_schedule.proofs.Starting.{starts_driven}
use Rattle.cp_crew.proofs.Going.{begins, may_after, known_after, go_after, going_at_end, sound_at_end}
use Rattle.cp_crew.proofs.run.run_crew.Goals as goal

pub take_round-crew-requires-after_bounds : goal.take_round-crew-requires-after_bounds
take_round-crew-requires-after_bounds g c κs within = begins g.M.Machine.code g.M.Rule.Asks.asks g.M.Rule.Asks.objects c.args.shells c.args.hall c.args.port.entries c.args.callers c.requires.some c.requires.fresh c.requires.callers c.requires.port

pub has_ended-requires-clause-known : goal.has_ended-requires-clause-known
has_ended-requires-clause-known g c = known_after g.M.Machine.code g.M.Rule.Asks.asks g.M.Rule.Asks.objects g.C.Caller.went c.args.shells c.loop.crew.shells c.args.hall c.loop.crew.hall c.args.port c.loop.crew.port c.args.callers c.loop.crew.callers c.loop.crew.memory
    (begins g.M.Machine.code g.M.Rule.Asks.asks g.M.Rule.Asks.objects c.args.shells c.args.hall c.args.port.entries c.args.callers c.requires.some c.requires.fresh c.requires.callers c.requires.port) c.loop.invariant

pub next_round-crew-requires-clause-may_begin : goal.next_round-crew-requires-clause-may_begin
next_round-crew-requires-clause-may_begin g c κs within = may_after g.M.Machine.code g.M.Rule.Asks.asks g.M.Rule.Asks.objects g.C.Caller.went c.args.shells c.loop.crew.shells c.args.hall c.loop.crew.hall c.args.port c.loop.crew.port c.args.callers c.loop.crew.callers c.loop.crew.memory
    (begins g.M.Machine.code g.M.Rule.Asks.asks g.M.Rule.Asks.objects c.args.shells c.args.hall c.args.port.entries c.args.callers c.requires.some c.requires.fresh c.requires.callers c.requires.port) c.loop.invariant

pub loop-preserved : goal.loop-preserved
loop-preserved g c = go_after g.M.Machine.code g.M.Rule.Asks.asks g.M.Rule.Asks.objects g.C.Caller.went c.args.shells c.loop.crew.shells c.next_round-crew.result.shells c.args.hall c.loop.crew.hall c.next_round-crew.result.hall c.args.port c.loop.crew.port c.next_round-crew.result.port
    c.args.callers c.loop.crew.callers c.next_round-crew.result.callers c.loop.crew.memory c.next_round-crew.result.memory c.loop.invariant (c.has_ended.ensures.goes_on c.if-has_ended.false) c.next_round-crew.ensures

pub returns-then-has_ended-clause-sound : goal.returns-then-has_ended-clause-sound
returns-then-has_ended-clause-sound g c k steps new awake = sound_at_end g.M.Machine.code g.M.Rule.Asks.asks g.M.Rule.Asks.objects g.C.Caller.went c.args.shells c.loop.crew.shells c.args.hall c.loop.crew.hall c.args.port c.loop.crew.port c.args.callers c.loop.crew.callers c.loop.crew.memory
    k steps (starts_driven g.M.Machine.code g.M.Rule.Asks.asks k c.args.shells c.args.hall c.args.port.entries new c.requires.fresh.unasked c.requires.port) c.loop.invariant c.state_soundness.ensures.sound (c.has_ended.ensures.parked c.if-has_ended.true awake)

pub returns-then-has_ended-clause-going : goal.returns-then-has_ended-clause-going
returns-then-has_ended-clause-going g c k steps new = going_at_end g.M.Machine.code g.M.Rule.Asks.asks g.M.Rule.Asks.objects g.C.Caller.went c.args.shells c.loop.crew.shells c.args.hall c.loop.crew.hall c.args.port c.loop.crew.port c.args.callers c.loop.crew.callers c.loop.crew.memory
    k steps (starts_driven g.M.Machine.code g.M.Rule.Asks.asks k c.args.shells c.args.hall c.args.port.entries new c.requires.fresh.unasked c.requires.port) c.loop.invariant c.state_soundness.ensures.going
