use Rattle.std.proofs.Common.{sym, subst, w64}
use Rattle.std.proofs.lemmas.Int.{to_z-of_z}
use Rattle.cp_call.specs.declared.item.Next.TheVariants as next
use Rattle.cp_call.specs.Life as life
use Rattle.cp_shell.specs.Stage.{IsRunningGoal}
use Rattle.cp_shell.proofs.Living.{lives_by_ask}
use Rattle.cp_shell.proofs.Turning.{made_by_asking, if_ok2, turned_by_ask}
use Rattle.cp_shell.proofs.ask_goal.ask_goal.Goals as goal

pub returns-in-Ok-clause-turned : goal.returns-in-Ok-clause-turned
returns-in-Ok-clause-turned g c = if_ok2 c.answered.result c.answered.ensures.at c.answered.ensures.parked (λ turn at parked.
    turned_by_ask (g.M.Rule.Asks.asks (g.M.Machine.code c.args.machine.now)) (g.M.Rule.Asks.objects (g.M.Machine.code c.args.machine.now)) (g.A.Asker.objects c.args.asker.now) (g.M.Machine.continuation c.args.machine.now) _ (g.M.Machine.failed c.args.machine.now) _ c.args.items.now.items _ _ c.args.number c.args.goal c.args.object c.args.call c.in-Ok.answer _ _
    c.requires.at c.requires.objects c.in-Ok.ensures.replied c.in-Ok.ensures.still
    (at _ (subst (λ k. IsRunningGoal (g.M.Rule.Asks.asks (g.M.Machine.code c.args.machine.now)) (g.M.Rule.Asks.objects (g.M.Machine.code c.args.machine.now)) (g.M.Machine.continuation c.args.machine.now) (g.M.Machine.failed c.args.machine.now) (life.last_stage (g.M.Rule.Asks.asks (g.M.Machine.code c.args.machine.now)) life.Idle c.args.items.now.items) k (next.Ask c.args.object c.args.call)) (sym (to_z-of_z w64 c.args.goal c.ranges.goal)) c.requires.at))
    parked)

pub returns-in-Ok-clause-life : goal.returns-in-Ok-clause-life
returns-in-Ok-clause-life g c = lives_by_ask _ _ _ _ c.args.items.now.items _ _ _ _ c.requires.at c.ask.ensures.event

pub returns-in-Err-clause-life : goal.returns-in-Err-clause-life
returns-in-Err-clause-life g c = lives_by_ask _ _ _ _ c.args.items.now.items _ _ _ _ c.requires.at c.ask.ensures.event

pub returns-in-Ok-clause-once : goal.returns-in-Ok-clause-once
returns-in-Ok-clause-once g c = made_by_asking c.args.items.now.items _ _ _ c.ask.ensures.event

pub returns-in-Err-clause-once : goal.returns-in-Err-clause-once
returns-in-Err-clause-once g c = made_by_asking c.args.items.now.items _ _ _ c.ask.ensures.event
