use Rattle.std.proofs.Common.{get_or, refl, sym, subst, take, ◌∙◌}
use Rattle.std.proofs.lemmas.List.{take_all, take_more}
use Rattle.cp_schedule.specs.Record.{RecordLeads}
use Rattle.cp_schedule.specs.Turns.{TakesPicks}
use Rattle.cp_schedule.proofs.Picking.{picks_later}
use Rattle.cp_schedule.proofs.Turns.{later_here, later_on, ready_on, going_later}
use Rattle.cp_schedule.proofs.picks.drive_picks.Goals as goal

pub loop-pick-init : goal.loop-pick-init
loop-pick-init g c = record {
  later = later_here g.M.Machine.code g.M.Rule.Asks.asks c.args.shells.now.items c.args.hall.now c.args.port.now.entries;
  ready = c.requires.ready;
  picks = λ k steps d. refl;
  first = refl;
}

pub loop-pick-preserved : goal.loop-pick-preserved
loop-pick-preserved g c = record {
  later = later_on g.M.Machine.code g.M.Rule.Asks.asks c.args.shells.now.items c.loop-pick.shells.items c.drive_pick.new.shells.items c.args.hall.now c.loop-pick.hall c.drive_pick.new.hall c.args.port.now.entries c.loop-pick.port.entries c.drive_pick.new.port.entries c.loop-pick.invariant.later c.drive_pick.ensures.later;
  ready = ready_on g.M.Machine.code g.M.Rule.Asks.asks g.M.Rule.Asks.objects c.loop-pick.shells.items c.drive_pick.new.shells.items c.loop-pick.hall c.drive_pick.new.hall c.loop-pick.port.entries c.drive_pick.new.port.entries c.loop-pick.invariant.ready c.drive_pick.ensures.later;
  picks = subst (λ picks. RecordLeads g.M.Machine.code g.M.Rule.Asks.asks c.args.shells.now.items c.drive_pick.new.shells.items c.args.hall.now c.drive_pick.new.hall c.args.port.now.entries c.drive_pick.new.port.entries (λ s before after. TakesPicks s before picks after))
      (sym (take_more c.args.picks.now c.loop-pick.pick-index 0 c.loop-pick-test.true))
      (picks_later g.M.Machine.code g.M.Rule.Asks.asks c.args.shells.now.items c.loop-pick.shells.items c.drive_pick.new.shells.items c.args.hall.now c.loop-pick.hall c.drive_pick.new.hall c.args.port.now.entries c.loop-pick.port.entries c.drive_pick.new.port.entries
      (take c.loop-pick.pick-index c.args.picks.now) (get_or c.args.picks.now c.loop-pick.pick-index 0) c.loop-pick.invariant.later c.loop-pick.invariant.picks c.in_ok-_driven.ensures.pick);
  first = c.drive_pick.ensures.first ∙ c.loop-pick.invariant.first;
}

pub returns-in_err-_driven-clause-later : goal.returns-in_err-_driven-clause-later
returns-in_err-_driven-clause-later g c = later_on g.M.Machine.code g.M.Rule.Asks.asks c.args.shells.now.items c.loop-pick.shells.items c.drive_pick.new.shells.items c.args.hall.now c.loop-pick.hall c.drive_pick.new.hall c.args.port.now.entries c.loop-pick.port.entries c.drive_pick.new.port.entries c.loop-pick.invariant.later c.drive_pick.ensures.later

pub returns-in_err-_driven-clause-going : goal.returns-in_err-_driven-clause-going
returns-in_err-_driven-clause-going g c = going_later g.M.Machine.code g.M.Rule.Asks.asks c.args.shells.now.items c.drive_pick.new.shells.items c.args.hall.now c.drive_pick.new.hall c.args.port.now.entries c.drive_pick.new.port.entries (later_on g.M.Machine.code g.M.Rule.Asks.asks c.args.shells.now.items c.loop-pick.shells.items c.drive_pick.new.shells.items c.args.hall.now c.loop-pick.hall c.drive_pick.new.hall c.args.port.now.entries c.loop-pick.port.entries c.drive_pick.new.port.entries c.loop-pick.invariant.later c.drive_pick.ensures.later)

pub returns-clause-going : goal.returns-clause-going
returns-clause-going g c = going_later g.M.Machine.code g.M.Rule.Asks.asks c.args.shells.now.items c.loop-pick.shells.items c.args.hall.now c.loop-pick.hall c.args.port.now.entries c.loop-pick.port.entries c.loop-pick.invariant.later

pub returns-clause-picks : goal.returns-clause-picks
returns-clause-picks g c =
    subst (λ picks. RecordLeads g.M.Machine.code g.M.Rule.Asks.asks c.args.shells.now.items c.loop-pick.shells.items c.args.hall.now c.loop-pick.hall c.args.port.now.entries c.loop-pick.port.entries (λ s before after. TakesPicks s before picks after))
    (take_all c.loop-pick.pick-index c.args.picks.now c.loop-pick-test.false) c.loop-pick.invariant.picks
