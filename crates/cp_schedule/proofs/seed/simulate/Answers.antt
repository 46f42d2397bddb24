use Rattle.std.proofs.Common.{◌∙◌, subst}
use Rattle.cp_out.specs.Port.{Records}
use Rattle.cp_schedule.proofs.Starting.{starts_ready}
use Rattle.cp_schedule.proofs.Ending.{come_sound, come_workers, come_run, if_some}
use Rattle.cp_schedule.proofs.Seeding.{come_of_seed}
use Rattle.cp_schedule.proofs.seed.simulate.Goals as goal

pub take_turns-requires : goal.take_turns-requires
take_turns-requires g c = record { ready = starts_ready g.M.Machine.code g.M.Rule.Asks.asks g.M.Rule.Asks.objects c.args.shells.items c.args.hall c.new-port.result.entries c.requires.fresh c.new-port.ensures.entries }

pub returns-in-Ok-clause-sound : goal.returns-in-Ok-clause-sound
returns-in-Ok-clause-sound g c k new = if_some c.end_record.result.outcome c.end_record.ensures.outcome (λ o is.
    come_sound g.M.Machine.code g.M.Rule.Asks.asks g.M.Rule.Asks.objects c.args.shells.items c.take_turns.new.shells.items c.args.hall c.take_turns.new.hall c.new-port.result.entries c.take_turns.new.port.entries k c.args.steps o
    (record { fresh = c.requires.fresh; empty = c.new-port.ensures.entries; later = c.take_turns.ensures.later })
    c.in-Ok.ensures.parked is new)

pub returns-in-Ok-clause-run : goal.returns-in-Ok-clause-run
returns-in-Ok-clause-run g c k new = if_some c.end_record.result.outcome c.end_record.ensures.outcome (λ o is.
    come_of_seed g.M.Machine.code g.M.Rule.Asks.asks g.M.Rule.Asks.objects c.args.shells.items c.take_turns.new.shells.items c.args.hall c.take_turns.new.hall c.new-port.result.entries c.take_turns.new.port.entries k c.args.seed c.args.steps o
    c.requires.fresh c.new-port.ensures.entries c.in-Ok.ensures.run is new)

pub returns-in-Ok-clause-workers : goal.returns-in-Ok-clause-workers
returns-in-Ok-clause-workers g c = if_some c.end_record.result.outcome c.end_record.ensures.outcome (λ o is.
    come_workers g.M.Machine.code g.M.Rule.Asks.asks g.M.Rule.Asks.objects c.args.shells.items c.take_turns.new.shells.items c.args.hall c.take_turns.new.hall c.new-port.result.entries c.take_turns.new.port.entries c.args.steps o
    (record { fresh = c.requires.fresh; empty = c.new-port.ensures.entries; later = c.take_turns.ensures.later })
    is)

pub returns-in-Ok-clause-ran : goal.returns-in-Ok-clause-ran
returns-in-Ok-clause-ran g c k new =
    come_run g.S.Sink.held g.S.Sink.faults c.args.sink c.end_record.result.sink g.M.Machine.code g.M.Rule.Asks.asks g.M.Rule.Asks.objects c.args.shells.items c.take_turns.new.shells.items c.args.hall c.take_turns.new.hall c.new-port.result.entries c.take_turns.new.port.entries k c.args.steps
    (record { fresh = c.requires.fresh; empty = c.new-port.ensures.entries; later = c.take_turns.ensures.later })
    (subst (λ first. Records g.S.Sink.held g.S.Sink.faults first c.take_turns.new.port.entries c.end_record.result.sink) (c.take_turns.ensures.first ∙ c.new-port.ensures.first) c.end_record.ensures.records)
    new

pub returns-in-Err-clause-ran : goal.returns-in-Err-clause-ran
returns-in-Err-clause-ran g c k new =
    come_run g.S.Sink.held g.S.Sink.faults c.args.sink c.stop.result.sink g.M.Machine.code g.M.Rule.Asks.asks g.M.Rule.Asks.objects c.args.shells.items c.take_turns.new.shells.items c.args.hall c.take_turns.new.hall c.new-port.result.entries c.take_turns.new.port.entries k c.args.steps
    (record { fresh = c.requires.fresh; empty = c.new-port.ensures.entries; later = c.take_turns.ensures.later })
    (subst (λ first. Records g.S.Sink.held g.S.Sink.faults first c.take_turns.new.port.entries c.stop.result.sink) (c.take_turns.ensures.first ∙ c.new-port.ensures.first) c.stop.ensures.records)
    new
