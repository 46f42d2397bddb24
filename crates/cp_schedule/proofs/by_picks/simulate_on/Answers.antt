use Rattle.std.proofs.Common.{rules, ◌≡◌, length, refl, sym, ◌∙◌, ap, subst}
use Rattle.cp_call.specs.declared.outcome.Outcome.{Outcome}
use Rattle.cp_hall.specs.Hall.{objects_of}
use Rattle.cp_out.specs.Port.{Records}
use Rattle.cp_schedule.specs.declared.by_picks.Course.TheVariants as course
use Rattle.cp_schedule.specs.declared.end.Picked.TheVariants as picked
use Rattle.cp_schedule.specs.Picked.{HasFollowed, IsRunOfPicks}
use Rattle.cp_schedule.specs.Record.{RecordLeads, record_now, workers_setup}
use Rattle.cp_schedule.proofs.Ending.{come_now, come_sound, come_workers}
use Rattle.cp_schedule.proofs.Following.{from_beginning, if_ended, rests_as, unended}
use Rattle.cp_schedule.proofs.Starting.{starts_ready}
use Rattle.cp_schedule.proofs.by_picks.simulate_on.Goals as goal

pub follow_picks-requires : goal.follow_picks-requires
follow_picks-requires g c = record { ready = starts_ready g.M.Machine.code g.M.Rule.Asks.asks g.M.Rule.Asks.objects c.args.shells.items c.args.hall c.new-port.result.entries c.requires.fresh c.new-port.ensures.entries }

pub returns-in-Ok-Rest-clause-sound : goal.returns-in-Ok-Rest-clause-sound
returns-in-Ok-Rest-clause-sound g c k new = if_ended c.args.steps c.follow_picks.new.shells.items c.follow_picks.new.hall c.follow_picks.new.port.entries c.rest.result.end c.rest.ensures.end (λ o is.
    come_sound g.M.Machine.code g.M.Rule.Asks.asks g.M.Rule.Asks.objects c.args.shells.items c.follow_picks.new.shells.items c.args.hall c.follow_picks.new.hall c.new-port.result.entries c.follow_picks.new.port.entries k c.args.steps o (record { fresh = c.requires.fresh; empty = c.new-port.ensures.entries; later = c.follow_picks.ensures.later }) (c.in-Ok-Rest.ensures.parked (search rules)) is new)

pub returns-in-Ok-Rest-clause-workers : goal.returns-in-Ok-Rest-clause-workers
returns-in-Ok-Rest-clause-workers g c = if_ended c.args.steps c.follow_picks.new.shells.items c.follow_picks.new.hall c.follow_picks.new.port.entries c.rest.result.end c.rest.ensures.end (λ o is.
    come_workers g.M.Machine.code g.M.Rule.Asks.asks g.M.Rule.Asks.objects c.args.shells.items c.follow_picks.new.shells.items c.args.hall c.follow_picks.new.hall c.new-port.result.entries c.follow_picks.new.port.entries c.args.steps o (record { fresh = c.requires.fresh; empty = c.new-port.ensures.entries; later = c.follow_picks.ensures.later }) is)

pub returns-in-Ok-Rest-clause-records : goal.returns-in-Ok-Rest-clause-records
returns-in-Ok-Rest-clause-records g c = if_ended c.args.steps c.follow_picks.new.shells.items c.follow_picks.new.hall c.follow_picks.new.port.entries c.rest.result.end c.rest.ensures.end (λ o is.
    subst (λ entries. Records g.S.Sink.held g.S.Sink.faults c.args.sink entries c.rest.result.sink) (sym (ap (λ (x : Outcome). x.port) is)) (subst (λ first. Records g.S.Sink.held g.S.Sink.faults first c.follow_picks.new.port.entries c.rest.result.sink) (c.follow_picks.ensures.first ∙ c.new-port.ensures.first) c.rest.ensures.records))

pub returns-in-Ok-Rest-clause-run : goal.returns-in-Ok-Rest-clause-run
returns-in-Ok-Rest-clause-run g c k new =
    let same : c.in-Ok-Rest.field-0 ≡ course.Rest = search rules in (
      record_now c.args.steps c.follow_picks.new.shells.items c.follow_picks.new.hall c.follow_picks.new.port.entries,
      come_now g.S.Sink.held g.S.Sink.faults c.args.sink c.rest.result.sink g.M.Machine.code g.M.Rule.Asks.asks g.M.Rule.Asks.objects c.args.shells.items c.follow_picks.new.shells.items c.args.hall c.follow_picks.new.hall c.new-port.result.entries c.follow_picks.new.port.entries k c.args.steps (record { fresh = c.requires.fresh; empty = c.new-port.ensures.entries; later = c.follow_picks.ensures.later }) (subst (λ first. Records g.S.Sink.held g.S.Sink.faults first c.follow_picks.new.port.entries c.rest.result.sink) (c.follow_picks.ensures.first ∙ c.new-port.ensures.first) c.rest.ensures.records) new,
      rests_as (workers_setup (g.M.Rule.Asks.asks k) (objects_of c.args.hall)) c.args.picks.now c.args.steps (length c.args.shells.items) c.follow_picks.new.shells.items c.follow_picks.new.hall c.follow_picks.new.port.entries c.rest.result.end
          (from_beginning g.M.Machine.code g.M.Rule.Asks.asks g.M.Rule.Asks.objects c.args.shells.items c.follow_picks.new.shells.items c.args.hall c.follow_picks.new.hall c.new-port.result.entries c.follow_picks.new.port.entries k c.args.steps (λ s before after. HasFollowed s before c.args.picks.now course.Rest after) c.requires.fresh c.new-port.ensures.entries (subst (λ x. RecordLeads g.M.Machine.code g.M.Rule.Asks.asks c.args.shells.items c.follow_picks.new.shells.items c.args.hall c.follow_picks.new.hall c.new-port.result.entries c.follow_picks.new.port.entries (λ s before after. HasFollowed s before c.args.picks.now x after)) same c.in-Ok-Rest.ensures.followed) new) c.rest.ensures.end,
    )

pub returns-in-Ok-Awake-clause-sound : goal.returns-in-Ok-Awake-clause-sound
returns-in-Ok-Awake-clause-sound g c k new = unended _ c.give_up.result.end picked.Awake c.give_up.ensures.end tt

pub returns-in-Ok-Awake-clause-workers : goal.returns-in-Ok-Awake-clause-workers
returns-in-Ok-Awake-clause-workers g c = unended _ c.give_up.result.end picked.Awake c.give_up.ensures.end tt

pub returns-in-Ok-Awake-clause-records : goal.returns-in-Ok-Awake-clause-records
returns-in-Ok-Awake-clause-records g c = unended _ c.give_up.result.end picked.Awake c.give_up.ensures.end tt

pub returns-in-Ok-Awake-clause-run : goal.returns-in-Ok-Awake-clause-run
returns-in-Ok-Awake-clause-run g c k new =
    let same : c.in-Ok-Awake.field-0 ≡ course.Awake = search rules in (
      record_now c.args.steps c.follow_picks.new.shells.items c.follow_picks.new.hall c.follow_picks.new.port.entries,
      come_now g.S.Sink.held g.S.Sink.faults c.args.sink c.give_up.result.sink g.M.Machine.code g.M.Rule.Asks.asks g.M.Rule.Asks.objects c.args.shells.items c.follow_picks.new.shells.items c.args.hall c.follow_picks.new.hall c.new-port.result.entries c.follow_picks.new.port.entries k c.args.steps (record { fresh = c.requires.fresh; empty = c.new-port.ensures.entries; later = c.follow_picks.ensures.later }) (subst (λ first. Records g.S.Sink.held g.S.Sink.faults first c.follow_picks.new.port.entries c.give_up.result.sink) (c.follow_picks.ensures.first ∙ c.new-port.ensures.first) c.give_up.ensures.records) new,
      subst (λ end. IsRunOfPicks (workers_setup (g.M.Rule.Asks.asks k) (objects_of c.args.hall)) c.args.picks.now c.args.steps (length c.args.shells.items) end (record_now c.args.steps c.follow_picks.new.shells.items c.follow_picks.new.hall c.follow_picks.new.port.entries)) (sym c.give_up.ensures.end) (from_beginning g.M.Machine.code g.M.Rule.Asks.asks g.M.Rule.Asks.objects c.args.shells.items c.follow_picks.new.shells.items c.args.hall c.follow_picks.new.hall c.new-port.result.entries c.follow_picks.new.port.entries k c.args.steps (λ s before after. HasFollowed s before c.args.picks.now course.Awake after) c.requires.fresh c.new-port.ensures.entries (subst (λ x. RecordLeads g.M.Machine.code g.M.Rule.Asks.asks c.args.shells.items c.follow_picks.new.shells.items c.args.hall c.follow_picks.new.hall c.new-port.result.entries c.follow_picks.new.port.entries (λ s before after. HasFollowed s before c.args.picks.now x after)) same c.in-Ok-Awake.ensures.followed) new),
    )

pub returns-in-Ok-BadPick-clause-sound : goal.returns-in-Ok-BadPick-clause-sound
returns-in-Ok-BadPick-clause-sound g c k new = unended _ c.give_up-in-Ok-BadPick.result.end (picked.BadPick c.in-Ok-BadPick.place) c.give_up-in-Ok-BadPick.ensures.end tt

pub returns-in-Ok-BadPick-clause-workers : goal.returns-in-Ok-BadPick-clause-workers
returns-in-Ok-BadPick-clause-workers g c = unended _ c.give_up-in-Ok-BadPick.result.end (picked.BadPick c.in-Ok-BadPick.place) c.give_up-in-Ok-BadPick.ensures.end tt

pub returns-in-Ok-BadPick-clause-records : goal.returns-in-Ok-BadPick-clause-records
returns-in-Ok-BadPick-clause-records g c = unended _ c.give_up-in-Ok-BadPick.result.end (picked.BadPick c.in-Ok-BadPick.place) c.give_up-in-Ok-BadPick.ensures.end tt

pub returns-in-Ok-BadPick-clause-run : goal.returns-in-Ok-BadPick-clause-run
returns-in-Ok-BadPick-clause-run g c k new =
    let same : c.in-Ok-BadPick.field-0 ≡ course.BadPick c.in-Ok-BadPick.place = search rules in (
      record_now c.args.steps c.follow_picks.new.shells.items c.follow_picks.new.hall c.follow_picks.new.port.entries,
      come_now g.S.Sink.held g.S.Sink.faults c.args.sink c.give_up-in-Ok-BadPick.result.sink g.M.Machine.code g.M.Rule.Asks.asks g.M.Rule.Asks.objects c.args.shells.items c.follow_picks.new.shells.items c.args.hall c.follow_picks.new.hall c.new-port.result.entries c.follow_picks.new.port.entries k c.args.steps (record { fresh = c.requires.fresh; empty = c.new-port.ensures.entries; later = c.follow_picks.ensures.later }) (subst (λ first. Records g.S.Sink.held g.S.Sink.faults first c.follow_picks.new.port.entries c.give_up-in-Ok-BadPick.result.sink) (c.follow_picks.ensures.first ∙ c.new-port.ensures.first) c.give_up-in-Ok-BadPick.ensures.records) new,
      subst (λ end. IsRunOfPicks (workers_setup (g.M.Rule.Asks.asks k) (objects_of c.args.hall)) c.args.picks.now c.args.steps (length c.args.shells.items) end (record_now c.args.steps c.follow_picks.new.shells.items c.follow_picks.new.hall c.follow_picks.new.port.entries)) (sym c.give_up-in-Ok-BadPick.ensures.end) (from_beginning g.M.Machine.code g.M.Rule.Asks.asks g.M.Rule.Asks.objects c.args.shells.items c.follow_picks.new.shells.items c.args.hall c.follow_picks.new.hall c.new-port.result.entries c.follow_picks.new.port.entries k c.args.steps (λ s before after. HasFollowed s before c.args.picks.now (course.BadPick c.in-Ok-BadPick.place) after) c.requires.fresh c.new-port.ensures.entries (subst (λ x. RecordLeads g.M.Machine.code g.M.Rule.Asks.asks c.args.shells.items c.follow_picks.new.shells.items c.args.hall c.follow_picks.new.hall c.new-port.result.entries c.follow_picks.new.port.entries (λ s before after. HasFollowed s before c.args.picks.now x after)) same c.in-Ok-BadPick.ensures.followed) new),
    )

pub returns-in-Err-clause-sound : goal.returns-in-Err-clause-sound
returns-in-Err-clause-sound g c k new = unended _ c.give_up-in-Err.result.end picked.NoMemory c.give_up-in-Err.ensures.end tt

pub returns-in-Err-clause-workers : goal.returns-in-Err-clause-workers
returns-in-Err-clause-workers g c = unended _ c.give_up-in-Err.result.end picked.NoMemory c.give_up-in-Err.ensures.end tt

pub returns-in-Err-clause-records : goal.returns-in-Err-clause-records
returns-in-Err-clause-records g c = unended _ c.give_up-in-Err.result.end picked.NoMemory c.give_up-in-Err.ensures.end tt

pub returns-in-Err-clause-run : goal.returns-in-Err-clause-run
returns-in-Err-clause-run g c k new = (
  record_now c.args.steps c.follow_picks.new.shells.items c.follow_picks.new.hall c.follow_picks.new.port.entries,
  come_now g.S.Sink.held g.S.Sink.faults c.args.sink c.give_up-in-Err.result.sink g.M.Machine.code g.M.Rule.Asks.asks g.M.Rule.Asks.objects c.args.shells.items c.follow_picks.new.shells.items c.args.hall c.follow_picks.new.hall c.new-port.result.entries c.follow_picks.new.port.entries k c.args.steps (record { fresh = c.requires.fresh; empty = c.new-port.ensures.entries; later = c.follow_picks.ensures.later }) (subst (λ first. Records g.S.Sink.held g.S.Sink.faults first c.follow_picks.new.port.entries c.give_up-in-Err.result.sink) (c.follow_picks.ensures.first ∙ c.new-port.ensures.first) c.give_up-in-Err.ensures.records) new,
  subst (λ end. IsRunOfPicks (workers_setup (g.M.Rule.Asks.asks k) (objects_of c.args.hall)) c.args.picks.now c.args.steps (length c.args.shells.items) end (record_now c.args.steps c.follow_picks.new.shells.items c.follow_picks.new.hall c.follow_picks.new.port.entries)) (sym c.give_up-in-Err.ensures.end) (tt),
)
