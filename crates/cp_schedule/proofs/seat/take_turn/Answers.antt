use Rattle.std.proofs.Common.{◌≡◌, ◌+◌, sym, subst, Some}
use Rattle.std.specs.Prelude.{slice_get}
use Rattle.std.proofs.lemmas.Option.{slice_get_read}
use Rattle.cp_call.specs.Running.{IsRunning}
use Rattle.cp_call.specs.Sound.{own_writes}
use Rattle.cp_hall.specs.Hall.{objects_of, history_at}
use Rattle.cp_schedule.proofs.Turns.{once_of, turn_later}
use Rattle.cp_schedule.proofs.Picking.{leads_undialled, turn_takes}
use Rattle.cp_schedule.proofs.seat.take_turn.Goals as goal

pub drive_one-taken-requires-clause-running : goal.drive_one-taken-requires-clause-running
drive_one-taken-requires-clause-running g c stopped =
    let there : slice_get c.args.shells.now.items c.args.place ≡ Some c.index_mut-shell.result.now = slice_get_read c.args.shells.now.items c.args.shells.now.len c.args.place c.index_mut-shell.result.now c.args.shells.now.ok.0 c.requires.within c.index_mut-shell.ensures.value in
    subst (λ n. IsRunning (g.M.Rule.Asks.asks (g.M.Machine.code c.index_mut-shell.result.now.machine)) (objects_of c.args.hall.now) (history_at c.args.hall.now) (own_writes n c.args.port.now.entries) n c.index_mut-shell.result.now.items) (sym (c.requires.ready.driven.numbers c.args.place c.index_mut-shell.result.now there))
    (subst (λ k. IsRunning (g.M.Rule.Asks.asks k) (objects_of c.args.hall.now) (history_at c.args.hall.now) (own_writes (c.args.place + 1) c.args.port.now.entries) (c.args.place + 1) c.index_mut-shell.result.now.items) (sym (c.requires.ready.driven.codes c.args.place c.index_mut-shell.result.now there))
    (c.requires.ready.driven.running c.args.place c.index_mut-shell.result.now there))

pub returns-clause-later : goal.returns-clause-later
returns-clause-later g c =
    let there : slice_get c.args.shells.now.items c.args.place ≡ Some c.index_mut-shell.result.now = slice_get_read c.args.shells.now.items c.args.shells.now.len c.args.place c.index_mut-shell.result.now c.args.shells.now.ok.0 c.requires.within c.index_mut-shell.ensures.value in
    turn_later g.M.Machine.code g.M.Rule.Asks.asks c.args.shells.now.items c.args.place c.index_mut-shell.result.now c.drive_one-taken.new.self c.args.hall.now c.drive_one-taken.new.asker c.args.port.now.entries c.drive_one-taken.new.port.entries
    there (c.requires.ready.driven.numbers c.args.place c.index_mut-shell.result.now there) c.drive_one-taken.ensures.number c.drive_one-taken.ensures.code c.drive_one-taken.ensures.life
    (record {
      added = c.drive_one-taken.ensures.added.0;
      is = c.drive_one-taken.ensures.added.1;
      has = c.drive_one-taken.ensures.added.2;
      objects = c.drive_one-taken.ensures.others.objects_stay;
      others = λ m q d. c.drive_one-taken.ensures.others.own_stay m q d;
      port_grows = c.drive_one-taken.ensures.port.entries;
      writers = λ m d. c.drive_one-taken.ensures.others_written.wrote_stays m d;
      once = once_of c.drive_one-taken.result (objects_of c.args.hall.now) (history_at c.drive_one-taken.new.asker) c.index_mut-shell.result.now.number c.index_mut-shell.result.now.items c.drive_one-taken.new.self.items c.drive_one-taken.ensures.turn;
    })
    c.state_invariant.ensures c.state_invariant-2.ensures.stays_failed

pub returns-in_err-_parked-clause-later : goal.returns-in_err-_parked-clause-later
returns-in_err-_parked-clause-later g c =
    let there : slice_get c.args.shells.now.items c.args.place ≡ Some c.index_mut-shell.result.now = slice_get_read c.args.shells.now.items c.args.shells.now.len c.args.place c.index_mut-shell.result.now c.args.shells.now.ok.0 c.requires.within c.index_mut-shell.ensures.value in
    turn_later g.M.Machine.code g.M.Rule.Asks.asks c.args.shells.now.items c.args.place c.index_mut-shell.result.now c.drive_one-taken.new.self c.args.hall.now c.drive_one-taken.new.asker c.args.port.now.entries c.drive_one-taken.new.port.entries
    there (c.requires.ready.driven.numbers c.args.place c.index_mut-shell.result.now there) c.drive_one-taken.ensures.number c.drive_one-taken.ensures.code c.drive_one-taken.ensures.life
    (record {
      added = c.drive_one-taken.ensures.added.0;
      is = c.drive_one-taken.ensures.added.1;
      has = c.drive_one-taken.ensures.added.2;
      objects = c.drive_one-taken.ensures.others.objects_stay;
      others = λ m q d. c.drive_one-taken.ensures.others.own_stay m q d;
      port_grows = c.drive_one-taken.ensures.port.entries;
      writers = λ m d. c.drive_one-taken.ensures.others_written.wrote_stays m d;
      once = once_of c.drive_one-taken.result (objects_of c.args.hall.now) (history_at c.drive_one-taken.new.asker) c.index_mut-shell.result.now.number c.index_mut-shell.result.now.items c.drive_one-taken.new.self.items c.drive_one-taken.ensures.turn;
    })
    c.state_invariant.ensures c.state_invariant-2.ensures.stays_failed

pub returns-clause-turn : goal.returns-clause-turn
returns-clause-turn g c k steps d awake =
    let there : slice_get c.args.shells.now.items c.args.place ≡ Some c.index_mut-shell.result.now = slice_get_read c.args.shells.now.items c.args.shells.now.len c.args.place c.index_mut-shell.result.now c.args.shells.now.ok.0 c.requires.within c.index_mut-shell.ensures.value in
    let done = c.in_ok-_parked.ensures.added in
    turn_takes g.M.Machine.code g.M.Rule.Asks.asks c.args.shells.now.items c.args.place c.index_mut-shell.result.now c.drive_one-taken.new.self c.args.hall.now c.drive_one-taken.new.asker c.args.port.now.entries c.drive_one-taken.new.port.entries k steps there
    (record {
      place = c.requires.ready.driven.numbers c.args.place c.index_mut-shell.result.now there;
      number = c.in_ok-_parked.ensures.number;
      lives = c.in_ok-_parked.ensures.life;
      facts = record {
        added = done.0;
        is = done.1;
        has = done.2;
        objects = c.in_ok-_parked.ensures.others.objects_stay;
        others = λ m q d. c.in_ok-_parked.ensures.others.own_stay m q d;
        port_grows = c.in_ok-_parked.ensures.port.entries;
        writers = λ m d. c.in_ok-_parked.ensures.others_written.wrote_stays m d;
        once = once_of c.drive_one-taken.result (objects_of c.args.hall.now) (history_at c.drive_one-taken.new.asker) c.index_mut-shell.result.now.number c.index_mut-shell.result.now.items c.drive_one-taken.new.self.items c.drive_one-taken.ensures.turn;
      };
      legal = c.state_invariant.ensures;
      failed = c.state_invariant-2.ensures.stays_failed;
      taken = c.in_ok-_parked.ensures.turn;
      undialled = leads_undialled _ _ _ done.0 (λ x call r y h. h) done.3;
      settled = c.in_ok-_parked.ensures.settled;
    })
    d awake
