use Rattle.std.proofs.Common.{◌∙◌, sym, ap, subst, w64, rules}
use Rattle.std.proofs.lemmas.Int.{to_z-of_z}
use Rattle.cp_shell.specs.Stage.{IsAt}
use Rattle.cp_call.specs.Life as life
use Rattle.cp_shell.proofs.Advancing.{if_ok}
use Rattle.cp_shell.proofs.event.make_event.Goals as goal

pub returns-in-Ends-clause-turned : goal.returns-in-Ends-clause-turned
returns-in-Ends-clause-turned g c = if_ok c.end_goal.result c.end_goal.ensures.turned (λ turn h. h (g.M.Rule.Asks.asks (g.M.Machine.code c.args.machine.now)) (g.M.Machine.continuation c.args.machine.now) (g.M.Machine.failed c.args.machine.now)
    (subst (λ s. IsAt (g.M.Rule.Asks.asks (g.M.Machine.code c.args.machine.now)) (g.M.Rule.Asks.objects (g.M.Machine.code c.args.machine.now)) (g.M.Machine.continuation c.args.machine.now) (g.M.Machine.failed c.args.machine.now) (life.last_stage (g.M.Rule.Asks.asks (g.M.Machine.code c.args.machine.now)) life.Idle c.args.items.now.items) s) c.in-Ends.is c.requires.at
    ∙ ap (λ k. life.Ends k c.in-Ends.end) (sym (to_z-of_z w64 c.in-Ends.goal (search rules)))))

pub returns-in-Ends-clause-life : goal.returns-in-Ends-clause-life
returns-in-Ends-clause-life g c = c.end_goal.ensures.life (g.M.Rule.Asks.asks (g.M.Machine.code c.args.machine.now))
    (subst (λ s. IsAt (g.M.Rule.Asks.asks (g.M.Machine.code c.args.machine.now)) (g.M.Rule.Asks.objects (g.M.Machine.code c.args.machine.now)) (g.M.Machine.continuation c.args.machine.now) (g.M.Machine.failed c.args.machine.now) (life.last_stage (g.M.Rule.Asks.asks (g.M.Machine.code c.args.machine.now)) life.Idle c.args.items.now.items) s) c.in-Ends.is c.requires.at
    ∙ ap (λ k. life.Ends k c.in-Ends.end) (sym (to_z-of_z w64 c.in-Ends.goal (search rules))))
