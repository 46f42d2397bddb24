use Rattle.std.proofs.Common.{sym, subst, w64}
use Rattle.std.proofs.lemmas.Int.{to_z-of_z}
use Rattle.cp_call.specs.declared.item.Next.TheVariants as next
use Rattle.cp_shell.specs.Stage.{IsAt, IsRunningGoal}
use Rattle.cp_shell.specs.Turn.{after_answer}
use Rattle.cp_shell.proofs.turn.answered.Goals as goal

pub returns-in_ok-stage-in-Some-clause-at : goal.returns-in_ok-stage-in-Some-clause-at
returns-in_ok-stage-in-Some-clause-at g c at running =
    subst (λ a. IsAt (g.M.Rule.Asks.asks (g.M.Machine.code c.args.machine.now)) (g.M.Rule.Asks.objects (g.M.Machine.code c.args.machine.now)) (g.M.Machine.continuation c.replied.new.machine) (g.M.Machine.failed c.replied.new.machine) (after_answer (g.M.Rule.Asks.asks (g.M.Machine.code c.args.machine.now)) at a) c.in_ok-stage-in-Some.stage) (sym c.in-Some.is)
    (c.in_ok-stage-in-Some.ensures.at at
    (subst (λ n. IsRunningGoal (g.M.Rule.Asks.asks (g.M.Machine.code c.args.machine.now)) (g.M.Rule.Asks.objects (g.M.Machine.code c.args.machine.now)) (g.M.Machine.continuation c.args.machine.now) (g.M.Machine.failed c.args.machine.now) at n (next.Ask c.args.object c.args.call)) (sym (to_z-of_z w64 c.args.number c.ranges.number)) running))
