use Rattle.std.proofs.Common.{sym, ◌∙◌, ap, [], ◌∷◌, ◌++◌, append_assoc}
use Rattle.std.proofs.Common.{w64}
use Rattle.std.proofs.lemmas.Int.{to_z-of_z}
use Rattle.cp_shell.specs.Stage.{stage_with}
use Rattle.cp_shell.proofs.Advancing.{runs_at, if_ok}
use Rattle.cp_shell.proofs.advance.hand.Goals as goal

pub returns-clause-at : goal.returns-clause-at
returns-clause-at g c = if_ok c.stage_of.result c.stage_of.ensures (λ s k goal inputs follows.
    runs_at (g.M.Rule.Asks.asks (g.M.Machine.code c.args.machine.now)) (g.M.Rule.Asks.objects (g.M.Machine.code c.args.machine.now)) (g.M.Machine.continuation c.step.new.self) (g.M.Machine.failed c.step.new.self) c.args.number goal (inputs ++ c.args.input ∷ []) c.in_ok-next.next s
    (c.in_ok-next.ensures.next ∙ sym (c.in_ok-next.ensures.continues []))
    (λ more. c.in_ok-next.ensures.continues more ∙ (follows (c.args.input ∷ more) ∙ ap (g.M.Rule.Asks.asks (g.M.Machine.code c.args.machine.now) goal) (sym (append_assoc inputs (c.args.input ∷ []) more))))
    (c.in_ok-next.ensures.ok.1) c.in_ok-next.ensures.form (k ∙ ap (λ n. stage_with n c.in_ok-next.next) (to_z-of_z w64 c.args.number c.ranges.number)))
