use Rattle.std.proofs.Common.{ap, sym, ◌∙◌, []}
use Rattle.std.proofs.Common.{w64}
use Rattle.std.proofs.lemmas.Int.{to_z-of_z}
use Rattle.cp_shell.specs.Stage.{stage_with}
use Rattle.cp_shell.proofs.Advancing.{runs_at, if_ok}
use Rattle.cp_shell.proofs.advance.start.Goals as goal

pub returns-clause-at : goal.returns-clause-at
returns-clause-at g c = if_ok c.stage_of.result c.stage_of.ensures (λ s k.
    runs_at (g.M.Rule.Asks.asks (g.M.Machine.code c.args.machine.now)) (g.M.Rule.Asks.objects (g.M.Machine.code c.args.machine.now)) (g.M.Machine.continuation c.start.new.self) (g.M.Machine.failed c.start.new.self) c.args.number c.args.goal.now [] c.in_ok-next.next s
    (c.in_ok-next.ensures.next ∙ sym (c.in_ok-next.ensures.starts [])) c.in_ok-next.ensures.starts c.in_ok-next.ensures.ok c.in_ok-next.ensures.form (k ∙ ap (λ n. stage_with n c.in_ok-next.next) (to_z-of_z w64 c.args.number c.ranges.number)))
