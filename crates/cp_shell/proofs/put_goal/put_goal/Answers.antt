use Rattle.std.proofs.Common.{refl, inl, inr, ◌∙◌, ap, sym, subst, w64, [], ◌∷◌, ◌++◌}
use Rattle.std.proofs.lemmas.Int.{to_z-of_z}
use Rattle.cp_call.specs.declared.item.Item.TheVariants as item
use Rattle.cp_call.specs.declared.item.Input.TheVariants as input
use Rattle.cp_call.specs.Added.{HasAdded}
use Rattle.cp_call.specs.Life as life
use Rattle.cp_call.proofs.Adding.{HasAdded-none}
use Rattle.cp_shell.specs.Stage.{IsAt}
use Rattle.cp_shell.proofs.Asking.{nothing}
use Rattle.cp_shell.proofs.Living.{lives_by_put}
use Rattle.cp_shell.proofs.Turning.{turned_by_put}
use Rattle.cp_shell.proofs.put_goal.put_goal.Goals as goal

pub returns-in_err-reserve-clause-added : goal.returns-in_err-reserve-clause-added
returns-in_err-reserve-clause-added g c objects seen = ([], c.reserve.ensures.items ∙ nothing _, HasAdded-none objects seen _ _)

pub returns-in_err-reply-clause-added : goal.returns-in_err-reply-clause-added
returns-in_err-reply-clause-added g c objects seen = (
  [],
  c.reserve.ensures.items ∙ nothing _,
  subst (λ w. HasAdded objects seen seen (g.P.Writer.wrote c.args.port.now c.args.number) w c.args.number []) (sym c.in_err-reply.ensures.err) (HasAdded-none objects seen (g.P.Writer.wrote c.args.port.now c.args.number) c.args.number),
)

pub returns-clause-turned : goal.returns-clause-turned
returns-clause-turned g c objects seen same =
    turned_by_put (g.M.Rule.Asks.asks (g.M.Machine.code c.args.machine.now)) (g.M.Rule.Asks.objects (g.M.Machine.code c.args.machine.now)) objects (g.M.Machine.continuation c.args.machine.now) (g.M.Machine.continuation c.hand.new.machine) (g.M.Machine.failed c.args.machine.now) (g.M.Machine.failed c.hand.new.machine) c.args.items.now.items c.put.new.self.items seen c.args.number c.args.goal c.args.bytes c.in_ok-reply.reply c.in_ok-stage.stage
    c.requires.at same
    (c.put.ensures.items ∙ ap (λ x. x ++ item.Wrote c.args.bytes c.in_ok-reply.reply ∷ []) c.reserve.ensures.items)
    (λ goal inputs follows. subst (λ k. IsAt (g.M.Rule.Asks.asks (g.M.Machine.code c.args.machine.now)) (g.M.Rule.Asks.objects (g.M.Machine.code c.args.machine.now)) (g.M.Machine.continuation c.hand.new.machine) (g.M.Machine.failed c.hand.new.machine) (life.runs_on (g.M.Rule.Asks.asks (g.M.Machine.code c.args.machine.now)) k goal (inputs ++ input.Put c.in_ok-reply.reply ∷ [])) c.in_ok-stage.stage) (to_z-of_z w64 c.args.goal c.ranges.goal) (c.in_ok-stage.ensures.at goal inputs follows))

pub returns-clause-life : goal.returns-clause-life
returns-clause-life g c = lives_by_put _ _ _ _ c.args.items.now.items _ _ _ c.in_ok-reply.reply c.requires.at
    (c.put.ensures.items ∙ ap (λ x. x ++ item.Wrote c.args.bytes c.in_ok-reply.reply ∷ []) c.reserve.ensures.items)

pub returns-in_err-stage-clause-life : goal.returns-in_err-stage-clause-life
returns-in_err-stage-clause-life g c = lives_by_put _ _ _ _ c.args.items.now.items _ _ _ c.in_ok-reply.reply c.requires.at
    (c.put.ensures.items ∙ ap (λ x. x ++ item.Wrote c.args.bytes c.in_ok-reply.reply ∷ []) c.reserve.ensures.items)

pub returns-in_err-reserve-clause-life : goal.returns-in_err-reserve-clause-life
returns-in_err-reserve-clause-life g c l = subst (λ x. life.IsWorkersLife (g.M.Rule.Asks.asks (g.M.Machine.code c.args.machine.now)) x) (sym c.reserve.ensures.items) l

pub returns-in_err-reply-clause-life : goal.returns-in_err-reply-clause-life
returns-in_err-reply-clause-life g c l = subst (λ x. life.IsWorkersLife (g.M.Rule.Asks.asks (g.M.Machine.code c.args.machine.now)) x) (sym c.reserve.ensures.items) l

pub returns-in_err-reserve-clause-once : goal.returns-in_err-reserve-clause-once
returns-in_err-reserve-clause-once g c = inl c.reserve.ensures.items

pub returns-in_err-reply-clause-once : goal.returns-in_err-reply-clause-once
returns-in_err-reply-clause-once g c = inl c.reserve.ensures.items

pub returns-clause-once : goal.returns-clause-once
returns-clause-once g c = inr (
  item.Wrote c.args.bytes c.in_ok-reply.reply,
  c.put.ensures.items ∙ ap (λ x. x ++ item.Wrote c.args.bytes c.in_ok-reply.reply ∷ []) c.reserve.ensures.items,
  refl,
)

pub returns-in_err-stage-clause-once : goal.returns-in_err-stage-clause-once
returns-in_err-stage-clause-once g c = inr (
  item.Wrote c.args.bytes c.in_ok-reply.reply,
  c.put.ensures.items ∙ ap (λ x. x ++ item.Wrote c.args.bytes c.in_ok-reply.reply ∷ []) c.reserve.ensures.items,
  refl,
)
