use Rattle.std.proofs.Common.{◌∙◌, arith}
use Rattle.cp_enter.proofs.CallLaws.{catch-entered}
use Rattle.cp_enter.proofs.calling.run_catch.Goals as goal

pub returns-clause-moved : goal.returns-clause-moved
returns-clause-moved c code own =
    c.in_ok-enter.ensures.moved code
    ∙ catch-entered code c.args.run.now c.put.new.self c.push_catching.new.self c.in-Some.catcher c.args.rest c.in_ok-protected.protected c.args.level c.args.seer.now c.in_ok-clone.field-0 c.args.goal.at c.args.ball.at c.args.recovery.at
    _ _ c.new.ensures c.in_ok-context.ensures (grind arith) c.in_ok-clone.ensures.cases c.requires.rest c.in_ok-protected.ensures.put c.in_ok-push_catching.ensures.pushed
