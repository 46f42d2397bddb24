use Rattle.std.proofs.Common.{sym, ap}
use Rattle.cp_code.specs.Goals.{seen_pred}
use Rattle.cp_code.specs.Programs.{code_of, pred_of}
use Rattle.cp_code.specs.Requests as requests
use Rattle.cp_request.specs.Asked.{goal_shown}
use Rattle.cp_request.proofs.FactLaws.{seen_object}
use Rattle.cp_request.proofs.facts.object_seen.Goals as goal

pub returns-in-Some : goal.returns-in-Some
returns-in-Some c h budget =
    seen_object h (goal_shown c.args.goal) (seen_pred (code_of c.args.program.now budget) c.args.seer.now c.args.name.now c.args.arity) (pred_of c.args.program.now.checks c.in-Some.pred.now) c.shared_object.result (c.in-Some.ensures budget) (c.shared_object.ensures h c.args.program.now.checks)

pub returns-in-None : goal.returns-in-None
returns-in-None c h budget fact f ctx = ap (λ p. requests.asking_of_pred (goal_shown c.args.goal) fact f p ctx) (sym (c.in-None.ensures budget))
