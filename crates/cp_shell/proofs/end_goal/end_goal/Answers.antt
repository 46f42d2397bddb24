use Rattle.std.proofs.Common.{◌∙◌, ap, length, subst, w64, to_z, of_z}
use Rattle.std.proofs.lemmas.Int.{to_z-of_z}
use Rattle.cp_call.specs.Life as life
use Rattle.cp_shell.specs.Stage.{IsAt}
use Rattle.cp_shell.specs.Turn.{after_answer}
use Rattle.cp_shell.proofs.Living.{lives_by_end}
use Rattle.cp_shell.proofs.Turning.{made_by_asking, turned_by_end}
use Rattle.cp_shell.proofs.end_goal.end_goal.Goals as goal

pub returns-clause-turned : goal.returns-clause-turned
returns-clause-turned g c rule continuation failed ends =
    turned_by_end rule (g.A.Asker.objects c.args.asker.now) continuation failed c.args.items.now.items _ _ c.args.number c.args.goal c.args.end c.in_ok-ended_term.field-0 c.in_ok-asked.field-0 _ _
    ends
    (c.in_ok-ended_term.ensures ∙ ap (λ k. life.ended_fact k c.args.end) (to_z-of_z w64 c.args.goal c.ranges.goal))
    c.in_ok-asked.ensures.replied c.in_ok-asked.ensures.still
    (subst (λ k. IsAt rule (length (g.A.Asker.objects c.args.asker.now)) continuation failed (after_answer rule (life.Ends k c.args.end) c.in_ok-asked.field-0) c.said.result.stage) (to_z-of_z w64 c.args.goal c.ranges.goal)
    (subst (λ e. IsAt rule (length (g.A.Asker.objects c.args.asker.now)) continuation failed (after_answer rule (life.Ends (to_z w64 (of_z w64 c.args.goal)) e) c.in_ok-asked.field-0) c.said.result.stage) c.end.view_is
    (c.said.ensures.at rule (length (g.A.Asker.objects c.args.asker.now)) continuation failed)))
    c.said.ensures.parked

pub returns-clause-life : goal.returns-clause-life
returns-clause-life g c rule ends = lives_by_end rule c.args.items.now.items _ c.args.goal c.args.end _ ends
    (c.in_ok-ended_term.ensures ∙ ap (λ k. life.ended_fact k c.args.end) (to_z-of_z w64 c.args.goal c.ranges.goal)) c.ask-asked.ensures.event

pub returns-in_err-asked-clause-life : goal.returns-in_err-asked-clause-life
returns-in_err-asked-clause-life g c rule ends = lives_by_end rule c.args.items.now.items _ c.args.goal c.args.end _ ends
    (c.in_ok-ended_term.ensures ∙ ap (λ k. life.ended_fact k c.args.end) (to_z-of_z w64 c.args.goal c.ranges.goal)) c.ask-asked.ensures.event

pub returns-clause-once : goal.returns-clause-once
returns-clause-once g c = made_by_asking c.args.items.now.items _ _ _ c.ask-asked.ensures.event

pub returns-in_err-asked-clause-once : goal.returns-in_err-asked-clause-once
returns-in_err-asked-clause-once g c = made_by_asking c.args.items.now.items _ _ _ c.ask-asked.ensures.event
