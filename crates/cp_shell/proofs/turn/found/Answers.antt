use Rattle.std.proofs.Common.{sym, subst, w64, [], rules}
use Rattle.std.specs.Prelude.{IfOk}
use Rattle.std.proofs.lemmas.Int.{to_z-of_z}
use Rattle.cp_call.specs.Life as life
use Rattle.cp_shell.specs.Stage.{IsAt}
use Rattle.cp_shell.proofs.turn.found.Goals as goal

pub returns-in-Found-clause-at : goal.returns-in-Found-clause-at
returns-in-Found-clause-at g c =
    subst (λ r. IfOk c.start.result (IsAt (g.M.Rule.Asks.asks (g.M.Machine.code c.args.machine.now)) (g.M.Rule.Asks.objects (g.M.Machine.code c.args.machine.now)) (g.M.Machine.continuation c.start.new.machine) (g.M.Machine.failed c.start.new.machine) (life.replied (g.M.Rule.Asks.asks (g.M.Machine.code c.args.machine.now)) life.Idle r))) (sym c.in-Found.is)
    (subst (λ n. IfOk c.start.result (IsAt (g.M.Rule.Asks.asks (g.M.Machine.code c.args.machine.now)) (g.M.Rule.Asks.objects (g.M.Machine.code c.args.machine.now)) (g.M.Machine.continuation c.start.new.machine) (g.M.Machine.failed c.start.new.machine) (life.runs_on (g.M.Rule.Asks.asks (g.M.Machine.code c.args.machine.now)) n c.in-Found.fact []))) (to_z-of_z w64 c.in-Found.place (search rules)) c.start.ensures.at)
