use Rattle.std.proofs.Common.{rules, ◌≡◌, ◌++◌, refl, sym, ◌∙◌, ap, subst, IsTrue, length}
use Rattle.cp_shell.proofs.Driving.{asks_on, drives_here, drives_on, ends_on, life_on, never, parks_on, runs_after, stopped_same, stops_on, turn_awake, turn_parks, works, works_on, writes_on}
use Rattle.cp_call.specs.Life as life
use Rattle.cp_shell.specs.Parked.{parked_object}
use Rattle.cp_shell.proofs.Staying.{asks_stays, writes_stays}
use Rattle.cp_shell.proofs.shell.Shell.drive.Goals as goal

pub loop-init : goal.loop-init
loop-init g c = record {
  number = refl;
  code = refl;
  driven = drives_here g.C.Caller.went (g.A.Asker.objects c.args.asker.now) (g.A.Asker.seen c.args.asker.now) (g.P.Writer.wrote c.args.port.now) c.args.caller.now c.args.self.now.number c.args.self.now.items;
  life = λ l. l;
  work = c.requires.running;
  stopped = λ h. refl;
  others = asks_stays c.args.self.now.number (g.A.Asker.objects c.args.asker.now) (g.A.Asker.serves c.args.asker.now) (g.A.Asker.seen c.args.asker.now) (g.A.Asker.looked c.args.asker.now);
  others_written = writes_stays c.args.self.now.number (g.P.Writer.serves c.args.port.now) (g.P.Writer.wrote c.args.port.now);
  asker = g.met.A.Asker.stays_here c.args.asker.now;
  port = g.met.P.Writer.stays_here c.args.port.now;
}

pub drive_one-requires-clause-objects : goal.drive_one-requires-clause-objects
drive_one-requires-clause-objects g c = ap g.M.Rule.Asks.objects c.loop.invariant.code ∙ (c.requires.objects ∙ ap length (sym c.loop.invariant.others.objects_stay))

pub drive_one-requires-clause-asks : goal.drive_one-requires-clause-asks
drive_one-requires-clause-asks g c = subst IsTrue (sym (c.loop.invariant.others.serves_stay c.loop.self.number ∙ ap (g.A.Asker.serves c.args.asker.now) c.loop.invariant.number)) c.requires.asks

pub drive_one-requires-clause-writes : goal.drive_one-requires-clause-writes
drive_one-requires-clause-writes g c = subst IsTrue (sym (c.loop.invariant.others_written.serves_stay c.loop.self.number ∙ ap (g.P.Writer.serves c.args.port.now) c.loop.invariant.number)) c.requires.writes

pub drive_one-requires-clause-running : goal.drive_one-requires-clause-running
drive_one-requires-clause-running g c = c.loop.invariant.work

pub returns-in-Ok-true-clause-number : goal.returns-in-Ok-true-clause-number
returns-in-Ok-true-clause-number g c = c.drive_one.ensures.number ∙ c.loop.invariant.number

pub returns-in-Ok-true-clause-code : goal.returns-in-Ok-true-clause-code
returns-in-Ok-true-clause-code g c = c.drive_one.ensures.code ∙ c.loop.invariant.code

pub returns-in-Ok-true-clause-added : goal.returns-in-Ok-true-clause-added
returns-in-Ok-true-clause-added g c =
    parks_on g.C.Caller.went (g.A.Asker.objects c.args.asker.now) (g.A.Asker.objects c.loop.asker) (g.A.Asker.seen c.args.asker.now) (g.A.Asker.seen c.loop.asker) (g.A.Asker.seen c.drive_one.new.asker) (g.P.Writer.wrote c.args.port.now) (g.P.Writer.wrote c.loop.port) (g.P.Writer.wrote c.drive_one.new.port) c.args.caller.now c.loop.caller c.drive_one.new.caller c.args.self.now.number c.loop.self.number c.args.self.now.items c.loop.self.items c.drive_one.new.self.items c.in-Ok-true.ensures.added.0 c.parked_on.result c.loop.invariant.others.objects_stay c.loop.invariant.number c.loop.invariant.driven c.in-Ok-true.ensures.added.1 c.in-Ok-true.ensures.added.2 c.in-Ok-true.ensures.added.3

pub returns-in-Ok-true-clause-life : goal.returns-in-Ok-true-clause-life
returns-in-Ok-true-clause-life g c =
    life_on g.M.Rule.Asks.asks (g.M.Machine.code c.loop.self.machine) (g.M.Machine.code c.args.self.now.machine) c.args.self.now.items c.loop.self.items c.drive_one.new.self.items c.loop.invariant.code c.loop.invariant.life c.drive_one.ensures.life

pub returns-in-Ok-true-clause-ended : goal.returns-in-Ok-true-clause-ended
returns-in-Ok-true-clause-ended g c =
    ends_on (g.A.Asker.objects c.args.asker.now) (g.A.Asker.objects c.loop.asker) (g.A.Asker.seen c.drive_one.new.asker) c.args.self.now.number c.loop.self.number c.args.self.now.items c.drive_one.new.self.items c.drive_one.new.self.is_stopped (parked_object c.drive_one.new.self.items) c.parked_on.result c.loop.invariant.others.objects_stay c.loop.invariant.number c.parked_on.ensures c.in-Ok-true.ensures.stopped (λ p parked.
    turn_parks (g.M.Rule.Asks.asks (g.M.Machine.code c.loop.self.machine)) (g.A.Asker.objects c.loop.asker) (g.A.Asker.seen c.drive_one.new.asker c.loop.self.number) (g.P.Writer.wrote c.drive_one.new.port c.loop.self.number) c.loop.self.number c.args.self.now.items c.loop.self.items c.drive_one.new.self.items c.loop.invariant.driven.added p c.loop.invariant.driven.is c.loop.invariant.driven.awake c.in-Ok-true.ensures.turn (runs_after (λ m. g.M.Rule.Asks.asks (g.M.Machine.code m)) (g.A.Asker.objects c.loop.asker) (g.A.Asker.seen c.loop.asker) (g.A.Asker.seen c.drive_one.new.asker) (g.P.Writer.wrote c.loop.port) (g.P.Writer.wrote c.drive_one.new.port) c.loop.self c.drive_one.new.self c.in-Ok-true.ensures.added.0 c.loop.invariant.work (works c.loop.self.is_stopped (λ h. (c.in-Ok-true.ensures.stays_stopped h).0)) c.drive_one.ensures.life c.in-Ok-true.ensures.added.1 c.in-Ok-true.ensures.added.2) parked)

pub returns-in-Ok-true-clause-stays_stopped : goal.returns-in-Ok-true-clause-stays_stopped
returns-in-Ok-true-clause-stays_stopped g c = λ h. never ((c.in-Ok-true.ensures.stays_stopped (ap (λ v. v.is_stopped) (c.loop.invariant.stopped h) ∙ h)).0)

pub returns-in-Ok-true-clause-others : goal.returns-in-Ok-true-clause-others
returns-in-Ok-true-clause-others g c =
    asks_on c.args.self.now.number c.loop.self.number (g.A.Asker.objects c.args.asker.now) (g.A.Asker.objects c.loop.asker) (g.A.Asker.objects c.drive_one.new.asker) (g.A.Asker.serves c.args.asker.now) (g.A.Asker.serves c.loop.asker) (g.A.Asker.serves c.drive_one.new.asker) (g.A.Asker.seen c.args.asker.now) (g.A.Asker.seen c.loop.asker) (g.A.Asker.seen c.drive_one.new.asker) (g.A.Asker.looked c.args.asker.now) (g.A.Asker.looked c.loop.asker) (g.A.Asker.looked c.drive_one.new.asker) c.loop.invariant.number c.loop.invariant.others c.drive_one.ensures.others

pub returns-in-Ok-true-clause-others_written : goal.returns-in-Ok-true-clause-others_written
returns-in-Ok-true-clause-others_written g c =
    writes_on c.args.self.now.number c.loop.self.number (g.P.Writer.serves c.args.port.now) (g.P.Writer.serves c.loop.port) (g.P.Writer.serves c.drive_one.new.port) (g.P.Writer.wrote c.args.port.now) (g.P.Writer.wrote c.loop.port) (g.P.Writer.wrote c.drive_one.new.port) c.loop.invariant.number c.loop.invariant.others_written c.drive_one.ensures.others_written

pub returns-in-Ok-true-clause-asker : goal.returns-in-Ok-true-clause-asker
returns-in-Ok-true-clause-asker g c = g.met.A.Asker.stays_on c.args.asker.now c.loop.asker c.drive_one.new.asker c.loop.invariant.asker c.drive_one.ensures.asker

pub returns-in-Ok-true-clause-port : goal.returns-in-Ok-true-clause-port
returns-in-Ok-true-clause-port g c = g.met.P.Writer.stays_on c.args.port.now c.loop.port c.drive_one.new.port c.loop.invariant.port c.drive_one.ensures.port

pub returns-in-Err-clause-number : goal.returns-in-Err-clause-number
returns-in-Err-clause-number g c = c.drive_one.ensures.number ∙ c.loop.invariant.number

pub returns-in-Err-clause-code : goal.returns-in-Err-clause-code
returns-in-Err-clause-code g c = c.drive_one.ensures.code ∙ c.loop.invariant.code

pub returns-in-Err-clause-added : goal.returns-in-Err-clause-added
returns-in-Err-clause-added g c =
    stops_on g.C.Caller.went (g.A.Asker.objects c.args.asker.now) (g.A.Asker.objects c.loop.asker) (g.A.Asker.seen c.args.asker.now) (g.A.Asker.seen c.loop.asker) (g.A.Asker.seen c.drive_one.new.asker) (g.P.Writer.wrote c.args.port.now) (g.P.Writer.wrote c.loop.port) (g.P.Writer.wrote c.drive_one.new.port) c.args.caller.now c.loop.caller c.args.self.now.number c.loop.self.number c.args.self.now.items c.loop.self.items c.drive_one.new.self.items c.in-Err.ensures.added.0 c.loop.invariant.others.objects_stay c.loop.invariant.number c.loop.invariant.driven c.in-Err.ensures.added.1 c.in-Err.ensures.added.2

pub returns-in-Err-clause-life : goal.returns-in-Err-clause-life
returns-in-Err-clause-life g c =
    life_on g.M.Rule.Asks.asks (g.M.Machine.code c.loop.self.machine) (g.M.Machine.code c.args.self.now.machine) c.args.self.now.items c.loop.self.items c.drive_one.new.self.items c.loop.invariant.code c.loop.invariant.life c.drive_one.ensures.life

pub returns-in-Err-clause-stays_stopped : goal.returns-in-Err-clause-stays_stopped
returns-in-Err-clause-stays_stopped g c = λ h. (c.in-Err.ensures.stays_stopped (ap (λ v. v.is_stopped) (c.loop.invariant.stopped h) ∙ h)).1 ∙ c.loop.invariant.stopped h

pub returns-in-Err-clause-others : goal.returns-in-Err-clause-others
returns-in-Err-clause-others g c =
    asks_on c.args.self.now.number c.loop.self.number (g.A.Asker.objects c.args.asker.now) (g.A.Asker.objects c.loop.asker) (g.A.Asker.objects c.drive_one.new.asker) (g.A.Asker.serves c.args.asker.now) (g.A.Asker.serves c.loop.asker) (g.A.Asker.serves c.drive_one.new.asker) (g.A.Asker.seen c.args.asker.now) (g.A.Asker.seen c.loop.asker) (g.A.Asker.seen c.drive_one.new.asker) (g.A.Asker.looked c.args.asker.now) (g.A.Asker.looked c.loop.asker) (g.A.Asker.looked c.drive_one.new.asker) c.loop.invariant.number c.loop.invariant.others c.drive_one.ensures.others

pub returns-in-Err-clause-others_written : goal.returns-in-Err-clause-others_written
returns-in-Err-clause-others_written g c =
    writes_on c.args.self.now.number c.loop.self.number (g.P.Writer.serves c.args.port.now) (g.P.Writer.serves c.loop.port) (g.P.Writer.serves c.drive_one.new.port) (g.P.Writer.wrote c.args.port.now) (g.P.Writer.wrote c.loop.port) (g.P.Writer.wrote c.drive_one.new.port) c.loop.invariant.number c.loop.invariant.others_written c.drive_one.ensures.others_written

pub returns-in-Err-clause-asker : goal.returns-in-Err-clause-asker
returns-in-Err-clause-asker g c = g.met.A.Asker.stays_on c.args.asker.now c.loop.asker c.drive_one.new.asker c.loop.invariant.asker c.drive_one.ensures.asker

pub returns-in-Err-clause-port : goal.returns-in-Err-clause-port
returns-in-Err-clause-port g c = g.met.P.Writer.stays_on c.args.port.now c.loop.port c.drive_one.new.port c.loop.invariant.port c.drive_one.ensures.port

pub loop-preserved : goal.loop-preserved
loop-preserved g c = record {
  number = c.drive_one.ensures.number ∙ c.loop.invariant.number;
  code = c.drive_one.ensures.code ∙ c.loop.invariant.code;
  driven = drives_on g.C.Caller.went (g.A.Asker.objects c.args.asker.now) (g.A.Asker.objects c.loop.asker) (g.A.Asker.seen c.args.asker.now) (g.A.Asker.seen c.loop.asker) (g.A.Asker.seen c.drive_one.new.asker) (g.P.Writer.wrote c.args.port.now) (g.P.Writer.wrote c.loop.port) (g.P.Writer.wrote c.drive_one.new.port) c.args.caller.now c.loop.caller c.drive_one.new.caller c.args.self.now.number c.loop.self.number c.args.self.now.items c.loop.self.items c.drive_one.new.self.items c.in-Ok-false.ensures.added.0 c.loop.invariant.others.objects_stay c.loop.invariant.number c.loop.invariant.driven c.in-Ok-false.ensures.added.1 c.in-Ok-false.ensures.added.2 c.in-Ok-false.ensures.added.3
      (turn_awake (g.M.Rule.Asks.asks (g.M.Machine.code c.loop.self.machine)) (g.A.Asker.objects c.loop.asker) (g.A.Asker.seen c.drive_one.new.asker c.loop.self.number) (g.P.Writer.wrote c.drive_one.new.port c.loop.self.number) c.loop.self.number c.loop.self.items c.drive_one.new.self.items c.in-Ok-false.ensures.added.0 c.in-Ok-false.ensures.added.1 c.in-Ok-false.ensures.turn (runs_after (λ m. g.M.Rule.Asks.asks (g.M.Machine.code m)) (g.A.Asker.objects c.loop.asker) (g.A.Asker.seen c.loop.asker) (g.A.Asker.seen c.drive_one.new.asker) (g.P.Writer.wrote c.loop.port) (g.P.Writer.wrote c.drive_one.new.port) c.loop.self c.drive_one.new.self c.in-Ok-false.ensures.added.0 c.loop.invariant.work (works c.loop.self.is_stopped (λ h. (c.in-Ok-false.ensures.stays_stopped h).0)) c.drive_one.ensures.life c.in-Ok-false.ensures.added.1 c.in-Ok-false.ensures.added.2) (search rules));
  life = life_on g.M.Rule.Asks.asks (g.M.Machine.code c.loop.self.machine) (g.M.Machine.code c.args.self.now.machine) c.args.self.now.items c.loop.self.items c.drive_one.new.self.items c.loop.invariant.code c.loop.invariant.life c.drive_one.ensures.life;
  work = works_on (λ m. g.M.Rule.Asks.asks (g.M.Machine.code m)) (g.A.Asker.objects c.loop.asker) (g.A.Asker.objects c.drive_one.new.asker) (g.A.Asker.seen c.drive_one.new.asker) (g.P.Writer.wrote c.drive_one.new.port) c.loop.self c.drive_one.new.self c.drive_one.ensures.number (ap g.M.Rule.Asks.asks c.drive_one.ensures.code) c.drive_one.ensures.others.objects_stay (runs_after (λ m. g.M.Rule.Asks.asks (g.M.Machine.code m)) (g.A.Asker.objects c.loop.asker) (g.A.Asker.seen c.loop.asker) (g.A.Asker.seen c.drive_one.new.asker) (g.P.Writer.wrote c.loop.port) (g.P.Writer.wrote c.drive_one.new.port) c.loop.self c.drive_one.new.self c.in-Ok-false.ensures.added.0 c.loop.invariant.work (works c.loop.self.is_stopped (λ h. (c.in-Ok-false.ensures.stays_stopped h).0)) c.drive_one.ensures.life c.in-Ok-false.ensures.added.1 c.in-Ok-false.ensures.added.2);
  stopped = λ h. never ((c.in-Ok-false.ensures.stays_stopped (ap (λ v. v.is_stopped) (c.loop.invariant.stopped h) ∙ h)).0);
  others = asks_on c.args.self.now.number c.loop.self.number (g.A.Asker.objects c.args.asker.now) (g.A.Asker.objects c.loop.asker) (g.A.Asker.objects c.drive_one.new.asker) (g.A.Asker.serves c.args.asker.now) (g.A.Asker.serves c.loop.asker) (g.A.Asker.serves c.drive_one.new.asker) (g.A.Asker.seen c.args.asker.now) (g.A.Asker.seen c.loop.asker) (g.A.Asker.seen c.drive_one.new.asker) (g.A.Asker.looked c.args.asker.now) (g.A.Asker.looked c.loop.asker) (g.A.Asker.looked c.drive_one.new.asker) c.loop.invariant.number c.loop.invariant.others c.drive_one.ensures.others;
  others_written = writes_on c.args.self.now.number c.loop.self.number (g.P.Writer.serves c.args.port.now) (g.P.Writer.serves c.loop.port) (g.P.Writer.serves c.drive_one.new.port) (g.P.Writer.wrote c.args.port.now) (g.P.Writer.wrote c.loop.port) (g.P.Writer.wrote c.drive_one.new.port) c.loop.invariant.number c.loop.invariant.others_written c.drive_one.ensures.others_written;
  asker = g.met.A.Asker.stays_on c.args.asker.now c.loop.asker c.drive_one.new.asker c.loop.invariant.asker c.drive_one.ensures.asker;
  port = g.met.P.Writer.stays_on c.args.port.now c.loop.port c.drive_one.new.port c.loop.invariant.port c.drive_one.ensures.port;
}

pub returns-clause-added : goal.returns-clause-added
returns-clause-added g c = let d = c.loop.invariant.driven in (d.added, subst (λ v. v.items ≡ c.args.self.now.items ++ d.added) (sym c.stop.ensures) d.is, d.has, tt)

pub returns-clause-number : goal.returns-clause-number
returns-clause-number g c = ap (λ v. v.number) c.stop.ensures ∙ c.loop.invariant.number

pub returns-clause-code : goal.returns-clause-code
returns-clause-code g c = ap (λ v. g.M.Machine.code v.machine) c.stop.ensures ∙ c.loop.invariant.code

pub returns-clause-life : goal.returns-clause-life
returns-clause-life g c = λ l. subst (life.IsWorkersLife (g.M.Rule.Asks.asks (g.M.Machine.code c.args.self.now.machine))) (sym (ap (λ v. v.items) c.stop.ensures)) (c.loop.invariant.life l)

pub returns-clause-stays_stopped : goal.returns-clause-stays_stopped
returns-clause-stays_stopped g c = λ h. c.stop.ensures ∙ stopped_same c.loop.self c.args.self.now (c.loop.invariant.stopped h) h

pub returns-clause-others : goal.returns-clause-others
returns-clause-others g c = c.loop.invariant.others

pub returns-clause-others_written : goal.returns-clause-others_written
returns-clause-others_written g c = c.loop.invariant.others_written

pub returns-clause-asker : goal.returns-clause-asker
returns-clause-asker g c = c.loop.invariant.asker

pub returns-clause-port : goal.returns-clause-port
returns-clause-port g c = c.loop.invariant.port
