use Rattle.std.proofs.Common.{◌≡◌, false, refl, sym, ◌∙◌, ap, subst, length, [], Some}
use Rattle.std.specs.Prelude.{is_none, is_some}
use Rattle.cp_call.proofs.Adding.{HasAdded-none}
use Rattle.cp_shell.specs.Shell.{ShellView, HasTakenTurn}
use Rattle.cp_shell.proofs.Asking.{nothing}
use Rattle.cp_shell.proofs.Resting.{IsAtWork, kept_after, runs_on, taken}
use Rattle.cp_shell.proofs.shell.Shell.drive_one.Goals as goal

pub invariant_of-self-in-Some : goal.invariant_of-self-in-Some
invariant_of-self-in-Some g c =
    let there : Some c.in-Some.stage ≡ c.self.inside.stage = cc (c.in-Some.is, c.take.ensures.value) in
    let works : is_none c.self.inside.stage ≡ false = subst (λ o. is_none o ≡ false) there refl in
    kept_after g.M.Rule.Asks.asks g.M.Rule.Asks.objects (g.M.Machine.code c.make_turn.new.machine) (g.M.Machine.code c.self.inside.machine) (g.A.Asker.objects c.args.asker.now) (g.M.Machine.continuation c.make_turn.new.machine) (g.M.Machine.failed c.make_turn.new.machine) c.self.inside.items.items c.make_turn.new.items.items (g.A.Asker.seen c.make_turn.new.asker c.self.inside.number) (g.P.Writer.wrote c.make_turn.new.port c.self.inside.number) c.self.inside.number c.in_ok-turn-in-Some.turn.stage c.in_ok-turn-in-Some.turn.parked
    c.make_turn.ensures.code (subst (λ v. g.M.Rule.Asks.objects (g.M.Machine.code v.machine) ≡ length (g.A.Asker.objects c.args.asker.now)) (sym c.self.view_is) c.requires.objects)
    c.in_ok-turn-in-Some.ensures.turned c.in_ok-turn-in-Some.ensures.settled
    (runs_on (g.M.Rule.Asks.asks (g.M.Machine.code c.self.inside.machine)) (g.A.Asker.objects c.args.asker.now) (g.A.Asker.seen c.args.asker.now c.self.inside.number) (g.A.Asker.seen c.make_turn.new.asker c.self.inside.number) (g.P.Writer.wrote c.args.port.now c.self.inside.number) (g.P.Writer.wrote c.make_turn.new.port c.self.inside.number) c.self.inside.number c.self.inside.items.items c.make_turn.new.items.items c.in_ok-turn-in-Some.ensures.added.0
    (subst (IsAtWork (λ m. g.M.Rule.Asks.asks (g.M.Machine.code m)) (g.A.Asker.objects c.args.asker.now) (g.A.Asker.seen c.args.asker.now) (g.P.Writer.wrote c.args.port.now)) (sym c.self.view_is) c.requires.running works)
    c.in_ok-turn-in-Some.ensures.life c.in_ok-turn-in-Some.ensures.added.1 c.in_ok-turn-in-Some.ensures.added.2)

pub returns-in-None-clause-added : goal.returns-in-None-clause-added
returns-in-None-clause-added g c = ([], ap (λ v. v.items) c.self.view_is ∙ nothing c.args.self.now.items, HasAdded-none (g.A.Asker.objects c.args.asker.now) (g.A.Asker.seen c.args.asker.now c.args.self.now.number) (g.P.Writer.wrote c.args.port.now c.args.self.now.number) c.args.self.now.number, tt)

pub returns-in_ok-turn-in-Some-clause-turn : goal.returns-in_ok-turn-in-Some-clause-turn
returns-in_ok-turn-in-Some-clause-turn g c =
    subst (λ v. HasTakenTurn (g.A.Asker.objects c.args.asker.now) (g.A.Asker.seen c.make_turn.new.asker v.number) v.number v.items c.make_turn.new.items.items) c.self.view_is
    (taken (g.M.Rule.Asks.asks (g.M.Machine.code c.self.inside.machine)) (g.A.Asker.objects c.args.asker.now) c.self.inside.items.items c.make_turn.new.items.items (g.A.Asker.seen c.make_turn.new.asker c.self.inside.number) c.self.inside.number c.in_ok-turn-in-Some.turn.parked c.in_ok-turn-in-Some.ensures.turned.event)

pub returns-in_ok-turn-in-Some-clause-parked : goal.returns-in_ok-turn-in-Some-clause-parked
returns-in_ok-turn-in-Some-clause-parked g c =
    let there : Some c.in-Some.stage ≡ c.self.inside.stage = cc (c.in-Some.is, c.take.ensures.value) in
    let works : is_none c.self.inside.stage ≡ false = subst (λ o. is_none o ≡ false) there refl in
    let kept = kept_after g.M.Rule.Asks.asks g.M.Rule.Asks.objects (g.M.Machine.code c.make_turn.new.machine) (g.M.Machine.code c.self.inside.machine) (g.A.Asker.objects c.args.asker.now) (g.M.Machine.continuation c.make_turn.new.machine) (g.M.Machine.failed c.make_turn.new.machine) c.self.inside.items.items c.make_turn.new.items.items (g.A.Asker.seen c.make_turn.new.asker c.self.inside.number) (g.P.Writer.wrote c.make_turn.new.port c.self.inside.number) c.self.inside.number c.in_ok-turn-in-Some.turn.stage c.in_ok-turn-in-Some.turn.parked
    c.make_turn.ensures.code (subst (λ v. g.M.Rule.Asks.objects (g.M.Machine.code v.machine) ≡ length (g.A.Asker.objects c.args.asker.now)) (sym c.self.view_is) c.requires.objects)
    c.in_ok-turn-in-Some.ensures.turned c.in_ok-turn-in-Some.ensures.settled
    (runs_on (g.M.Rule.Asks.asks (g.M.Machine.code c.self.inside.machine)) (g.A.Asker.objects c.args.asker.now) (g.A.Asker.seen c.args.asker.now c.self.inside.number) (g.A.Asker.seen c.make_turn.new.asker c.self.inside.number) (g.P.Writer.wrote c.args.port.now c.self.inside.number) (g.P.Writer.wrote c.make_turn.new.port c.self.inside.number) c.self.inside.number c.self.inside.items.items c.make_turn.new.items.items c.in_ok-turn-in-Some.ensures.added.0
    (subst (IsAtWork (λ m. g.M.Rule.Asks.asks (g.M.Machine.code m)) (g.A.Asker.objects c.args.asker.now) (g.A.Asker.seen c.args.asker.now) (g.P.Writer.wrote c.args.port.now)) (sym c.self.view_is) c.requires.running works)
    c.in_ok-turn-in-Some.ensures.life c.in_ok-turn-in-Some.ensures.added.1 c.in_ok-turn-in-Some.ensures.added.2) in
    c.is_some.ensures ∙ ap is_some kept.parked_is
