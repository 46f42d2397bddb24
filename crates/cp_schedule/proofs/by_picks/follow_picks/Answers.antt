use Rattle.std.proofs.Common.{rules, ◌≡◌, sym, subst, None, Some}
use Rattle.std.specs.Prelude.{slice_get}
use Rattle.cp_schedule.specs.Picked.{HasTaken}
use Rattle.cp_schedule.specs.Record.{RecordLeads}
use Rattle.cp_schedule.proofs.Choosing.{none_awake}
use Rattle.cp_schedule.proofs.Following.{awake_means, parked_means, rests_after, wakes_after}
use Rattle.cp_schedule.proofs.Turns.{ready_on}
use Rattle.cp_schedule.proofs.by_picks.follow_picks.Goals as goal

pub are_parked-requires : goal.are_parked-requires
are_parked-requires g c i s h =
    let ready = ready_on g.M.Machine.code g.M.Rule.Asks.asks g.M.Rule.Asks.objects c.args.shells.now.items c.take_picks.new.shells.items c.args.hall.now c.take_picks.new.hall c.args.port.now.entries c.take_picks.new.port.entries c.requires.ready c.take_picks.ensures.later in
    (ready.driven.running i s (subst (λ xs. slice_get xs i ≡ Some s) c.deref.ensures.value h)).agrees.known

pub returns-in-Some-clause-followed : goal.returns-in-Some-clause-followed
returns-in-Some-clause-followed g c =
    let is : c.in_ok-bad.bad ≡ Some c.in-Some.place = cc (c.in-Some.is) in
    (subst (λ b. RecordLeads g.M.Machine.code g.M.Rule.Asks.asks c.args.shells.now.items c.take_picks.new.shells.items c.args.hall.now c.take_picks.new.hall c.args.port.now.entries c.take_picks.new.port.entries (λ s before after. HasTaken s before c.args.picks.now b after)) is c.in_ok-bad.ensures.taken)

pub returns-then-parked-clause-followed : goal.returns-then-parked-clause-followed
returns-then-parked-clause-followed g c =
    let is : c.in_ok-bad.bad ≡ None = cc (c.in-None.is) in
    rests_after g.M.Machine.code g.M.Rule.Asks.asks c.args.shells.now.items c.take_picks.new.shells.items c.args.hall.now c.take_picks.new.hall c.args.port.now.entries c.take_picks.new.port.entries c.args.picks.now c.take_picks.ensures.later c.state_invariant.ensures
    (subst (λ b. RecordLeads g.M.Machine.code g.M.Rule.Asks.asks c.args.shells.now.items c.take_picks.new.shells.items c.args.hall.now c.take_picks.new.hall c.args.port.now.entries c.take_picks.new.port.entries (λ s before after. HasTaken s before c.args.picks.now b after)) is c.in_ok-bad.ensures.taken)
    (parked_means c.take_picks.new.hall _ c.take_picks.new.shells.items c.in_ok-parked-in-None.parked c.deref.ensures.value (search rules) c.in_ok-parked-in-None.ensures)

pub returns-then-parked-clause-parked : goal.returns-then-parked-clause-parked
returns-then-parked-clause-parked g c t = none_awake c.take_picks.new.hall c.take_picks.new.shells.items (parked_means c.take_picks.new.hall _ c.take_picks.new.shells.items c.in_ok-parked-in-None.parked c.deref.ensures.value (search rules) c.in_ok-parked-in-None.ensures)

pub returns-else-parked-clause-followed : goal.returns-else-parked-clause-followed
returns-else-parked-clause-followed g c =
    let is : c.in_ok-bad.bad ≡ None = cc (c.in-None.is) in
    wakes_after g.M.Machine.code g.M.Rule.Asks.asks c.args.shells.now.items c.take_picks.new.shells.items c.args.hall.now c.take_picks.new.hall c.args.port.now.entries c.take_picks.new.port.entries c.args.picks.now c.take_picks.ensures.later c.state_invariant.ensures
    (subst (λ b. RecordLeads g.M.Machine.code g.M.Rule.Asks.asks c.args.shells.now.items c.take_picks.new.shells.items c.args.hall.now c.take_picks.new.hall c.args.port.now.entries c.take_picks.new.port.entries (λ s before after. HasTaken s before c.args.picks.now b after)) is c.in_ok-bad.ensures.taken)
    (awake_means c.take_picks.new.hall _ c.take_picks.new.shells.items c.in_ok-parked-in-None.parked c.deref.ensures.value (search rules) c.in_ok-parked-in-None.ensures)
