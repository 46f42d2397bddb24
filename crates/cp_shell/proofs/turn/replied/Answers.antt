use Rattle.std.proofs.Common.{subst, w64, rules, [], ◌++◌, ◌∷◌}
use Rattle.std.proofs.lemmas.Int.{to_z-of_z}
use Rattle.cp_call.specs.Life as life
use Rattle.cp_call.specs.declared.item.Input.TheVariants as input
use Rattle.cp_shell.specs.Stage.{IsAt}
use Rattle.cp_shell.proofs.Advancing.{if_ok}
use Rattle.cp_shell.proofs.Replying.{goes_on_at}
use Rattle.cp_shell.proofs.turn.replied.Goals as goal

pub returns-clause-at : goal.returns-clause-at
returns-clause-at g c = if_ok c.hand.result c.hand.ensures.at (λ s h at running.
    goes_on_at (g.M.Rule.Asks.asks (g.M.Machine.code c.args.machine.now)) (g.M.Rule.Asks.objects (g.M.Machine.code c.args.machine.now)) (g.M.Machine.continuation c.args.machine.now) (g.M.Machine.continuation c.hand.new.machine) (g.M.Machine.failed c.args.machine.now) (g.M.Machine.failed c.hand.new.machine) at c.args.number _ c.args.reply s running (search rules)
    (λ goal inputs follows. subst (λ n. IsAt (g.M.Rule.Asks.asks (g.M.Machine.code c.args.machine.now)) (g.M.Rule.Asks.objects (g.M.Machine.code c.args.machine.now)) (g.M.Machine.continuation c.hand.new.machine) (g.M.Machine.failed c.hand.new.machine) (life.runs_on (g.M.Rule.Asks.asks (g.M.Machine.code c.args.machine.now)) n goal (inputs ++ input.Reply c.args.reply ∷ [])) s) (to_z-of_z w64 c.args.number c.ranges.number) (h goal inputs follows)))
