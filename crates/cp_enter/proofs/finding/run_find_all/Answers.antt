use Rattle.std.proofs.Common.{◌∙◌}
use Rattle.cp_enter.proofs.CallLaws.{find-entered}
use Rattle.cp_enter.proofs.finding.run_find_all.Goals as goal

pub returns-clause-moved : goal.returns-clause-moved
returns-clause-moved c code own =
    c.in_ok-enter.ensures.moved code
    ∙ find-entered code c.args.run.now c.put.new.self c.set_aside.new.run c.args.rest c.in_ok-solutions.solutions c.args.level c.args.seer.now c.in_ok-seer_of_copy.seer_of_copy c.args.template c.args.goal.at c.args.list.at
    _ _ c.new.ensures c.in_ok-context.ensures c.in_ok-seer_of_copy.ensures.cases c.requires.rest c.in_ok-solutions.ensures.put c.in_ok-set_aside.ensures.state (c.in_ok-set_aside.ensures.frames code)
