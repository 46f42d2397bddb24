use Rattle.cp_code.specs.Requests as requests
use Rattle.cp_run.specs.Shown.{here_of, instance_in}
use Rattle.cp_goals.proofs.AskLaws.{answer-there}
use Rattle.cp_calls.proofs.calling.call_shared.Goals as goal

pub returns-clause-moved : goal.returns-clause-moved
returns-clause-moved c code =
    c.in_ok-ask_or_raise.ensures.moved code (requests.pred_asking c.args.object (instance_in (here_of c.args.run.now) c.args.goal.at) c.args.pred.now) c.pred_asking-asking.ensures

pub ask_or_raise-requires-clause-answer : goal.ask_or_raise-requires-clause-answer
ask_or_raise-requires-clause-answer c =
    answer-there c.args.run.now.heap (requests.pred_asking c.args.object (instance_in (here_of c.args.run.now) c.args.goal.at) c.args.pred.now) c.pred_asking-asking.result c.pred_asking-asking.ensures
