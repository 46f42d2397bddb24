use Rattle.std.proofs.Common.{◌∙◌, ap, subst, w64, [], ◌∷◌, ◌++◌}
use Rattle.std.proofs.lemmas.Int.{to_z-of_z}
use Rattle.cp_call.specs.declared.item.Item.TheVariants as item
use Rattle.cp_call.specs.declared.item.Input.TheVariants as input
use Rattle.cp_call.specs.Life as life
use Rattle.cp_shell.specs.Stage.{IsAt}
use Rattle.cp_shell.proofs.Advancing.{if_ok}
use Rattle.cp_shell.proofs.Calling.{at_by_call}
use Rattle.cp_shell.proofs.Living.{lives_by_call}
use Rattle.cp_shell.proofs.remote_goal.remote_goal.Goals as goal

pub returns-in_err-copy-clause-life : goal.returns-in_err-copy-clause-life
returns-in_err-copy-clause-life g c = lives_by_call _ _ _ _ c.args.items.now.items _ _ _ c.in_ok-reply.reply c.requires.at
    (c.put.ensures.items ∙ ap (λ x. x ++ item.Remote c.args.call c.in_ok-reply.reply ∷ []) c.in_ok-reserve.ensures.items)

pub returns-clause-life : goal.returns-clause-life
returns-clause-life g c = lives_by_call _ _ _ _ c.args.items.now.items _ _ _ c.in_ok-reply.reply c.requires.at
    (c.put.ensures.items ∙ ap (λ x. x ++ item.Remote c.args.call c.in_ok-reply.reply ∷ []) c.in_ok-reserve.ensures.items)

pub returns-clause-at : goal.returns-clause-at
returns-clause-at g c = if_ok c.hand.result c.hand.ensures.at (λ stage h.
    at_by_call (g.M.Rule.Asks.asks (g.M.Machine.code c.args.machine.now)) (g.M.Rule.Asks.objects (g.M.Machine.code c.args.machine.now)) (g.M.Machine.continuation c.args.machine.now) (g.M.Machine.continuation c.hand.new.machine) (g.M.Machine.failed c.args.machine.now) (g.M.Machine.failed c.hand.new.machine) c.args.items.now.items c.put.new.self.items c.args.goal c.args.call c.in_ok-reply.reply stage
    c.requires.at
    (c.put.ensures.items ∙ ap (λ x. x ++ item.Remote c.args.call c.in_ok-reply.reply ∷ []) c.in_ok-reserve.ensures.items)
    (λ goal inputs follows.
    subst (λ r. IsAt (g.M.Rule.Asks.asks (g.M.Machine.code c.args.machine.now)) (g.M.Rule.Asks.objects (g.M.Machine.code c.args.machine.now)) (g.M.Machine.continuation c.hand.new.machine) (g.M.Machine.failed c.hand.new.machine) (life.runs_on (g.M.Rule.Asks.asks (g.M.Machine.code c.args.machine.now)) c.args.goal goal (inputs ++ input.Remote r ∷ [])) stage) c.in_ok-copy.ensures
    (subst (λ k. IsAt (g.M.Rule.Asks.asks (g.M.Machine.code c.args.machine.now)) (g.M.Rule.Asks.objects (g.M.Machine.code c.args.machine.now)) (g.M.Machine.continuation c.hand.new.machine) (g.M.Machine.failed c.hand.new.machine) (life.runs_on (g.M.Rule.Asks.asks (g.M.Machine.code c.args.machine.now)) k goal (inputs ++ input.Remote c.in_ok-copy.field-0 ∷ [])) stage) (to_z-of_z w64 c.args.goal c.ranges.goal) (h goal inputs follows))))
