use Rattle.std.proofs.Common.{rules, ◌≡◌, true, false, get_or, length, refl, sym, subst, take, ◌∙◌, ap, Some}
use Rattle.std.specs.Prelude.{slice_get}
use Rattle.std.proofs.lemmas.List.{take_all, take_more}
use Rattle.std.proofs.lemmas.Option.{slice_get-get_or}
use Rattle.cp_schedule.specs.Record.{RecordLeads}
use Rattle.cp_schedule.specs.Turns.{HasDriven, RunsBy}
use Rattle.cp_schedule.proofs.Picking.{runs_later, stops_later}
use Rattle.cp_schedule.proofs.Turns.{later_here, later_on, ready_on}
use Rattle.cp_schedule.proofs.by_picks.take_picks.Goals as goal

pub loop-place-init : goal.loop-place-init
loop-place-init g c = record {
  later = later_here g.M.Machine.code g.M.Rule.Asks.asks c.args.shells.now.items c.args.hall.now c.args.port.now.entries;
  ready = c.requires.ready;
  taken = λ k steps d. refl;
  first = refl;
}

pub loop-place-preserved : goal.loop-place-preserved
loop-place-preserved g c = record {
  later = later_on g.M.Machine.code g.M.Rule.Asks.asks c.args.shells.now.items c.loop-place.shells.items c.drive_pick.new.shells.items c.args.hall.now c.loop-place.hall c.drive_pick.new.hall c.args.port.now.entries c.loop-place.port.entries c.drive_pick.new.port.entries c.loop-place.invariant.later c.drive_pick.ensures.later;
  ready = ready_on g.M.Machine.code g.M.Rule.Asks.asks g.M.Rule.Asks.objects c.loop-place.shells.items c.drive_pick.new.shells.items c.loop-place.hall c.drive_pick.new.hall c.loop-place.port.entries c.drive_pick.new.port.entries c.loop-place.invariant.ready c.drive_pick.ensures.later;
  taken = subst (λ picks. RecordLeads g.M.Machine.code g.M.Rule.Asks.asks c.args.shells.now.items c.drive_pick.new.shells.items c.args.hall.now c.drive_pick.new.hall c.args.port.now.entries c.drive_pick.new.port.entries (λ s before after. RunsBy s before picks after))
      (sym (take_more c.args.picks.now c.loop-place.place 0 c.loop-place-test.true))
      (runs_later g.M.Machine.code g.M.Rule.Asks.asks c.args.shells.now.items c.loop-place.shells.items c.drive_pick.new.shells.items c.args.hall.now c.loop-place.hall c.drive_pick.new.hall c.args.port.now.entries c.loop-place.port.entries c.drive_pick.new.port.entries
      (take c.loop-place.place c.args.picks.now) (get_or c.args.picks.now c.loop-place.place 0) c.in_ok-driven.driven c.loop-place.invariant.later c.loop-place.invariant.taken (search rules) c.in_ok-driven.ensures.pick);
  first = c.drive_pick.ensures.first ∙ c.loop-place.invariant.first;
}

pub returns-in_err-driven-clause-later : goal.returns-in_err-driven-clause-later
returns-in_err-driven-clause-later g c = later_on g.M.Machine.code g.M.Rule.Asks.asks c.args.shells.now.items c.loop-place.shells.items c.drive_pick.new.shells.items c.args.hall.now c.loop-place.hall c.drive_pick.new.hall c.args.port.now.entries c.loop-place.port.entries c.drive_pick.new.port.entries c.loop-place.invariant.later c.drive_pick.ensures.later

pub returns-then-not-driven-clause-later : goal.returns-then-not-driven-clause-later
returns-then-not-driven-clause-later g c = later_on g.M.Machine.code g.M.Rule.Asks.asks c.args.shells.now.items c.loop-place.shells.items c.drive_pick.new.shells.items c.args.hall.now c.loop-place.hall c.drive_pick.new.hall c.args.port.now.entries c.loop-place.port.entries c.drive_pick.new.port.entries c.loop-place.invariant.later c.drive_pick.ensures.later

pub returns-then-not-driven-clause-taken : goal.returns-then-not-driven-clause-taken
returns-then-not-driven-clause-taken g c =
    stops_later g.M.Machine.code g.M.Rule.Asks.asks c.args.shells.now.items c.loop-place.shells.items c.drive_pick.new.shells.items c.args.hall.now c.loop-place.hall c.drive_pick.new.hall c.args.port.now.entries c.loop-place.port.entries c.drive_pick.new.port.entries
    c.args.picks.now c.loop-place.place (get_or c.args.picks.now c.loop-place.place 0) c.in_ok-driven.driven c.loop-place.invariant.later c.loop-place.invariant.taken
    (slice_get-get_or c.args.picks.now c.loop-place.place 0 c.loop-place-test.true) (search rules) c.in_ok-driven.ensures.pick

pub returns-clause-taken : goal.returns-clause-taken
returns-clause-taken g c =
    subst (λ picks. RecordLeads g.M.Machine.code g.M.Rule.Asks.asks c.args.shells.now.items c.loop-place.shells.items c.args.hall.now c.loop-place.hall c.args.port.now.entries c.loop-place.port.entries (λ s before after. RunsBy s before picks after))
    (take_all c.loop-place.place c.args.picks.now c.loop-place-test.false) c.loop-place.invariant.taken
