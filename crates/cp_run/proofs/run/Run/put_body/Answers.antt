use Rattle.cp_run.proofs.EnteringLaws.{no-body-put, body-there, some-body-put}
use Rattle.cp_run.proofs.run.Run.put_body.Goals as goal

pub put-requires-clause-item : goal.put-requires-clause-item
put-requires-clause-item c = body-there c.args.self.now.heap.terms c.args.module.now c.in_ok-clone-in-Some.field-0 c.args.body c.in-Some.at c.args.level c.in-Some.is c.in_ok-clone-in-Some.ensures.cases c.requires.body

pub returns-in-None-clause-put : goal.returns-in-None-clause-put
returns-in-None-clause-put c = no-body-put c.args.self.now c.args.module.now c.args.body c.args.rest c.args.level c.in-None.is c.requires.rest

pub returns-in_ok-n-in-Some-clause-put : goal.returns-in_ok-n-in-Some-clause-put
returns-in_ok-n-in-Some-clause-put c =
    some-body-put c.args.self.now c.put.new.self c.args.module.now c.in_ok-clone-in-Some.field-0 c.args.body c.in-Some.at c.args.rest c.args.level c.in_ok-n-in-Some.n c.in-Some.is c.in_ok-clone-in-Some.ensures.cases c.in_ok-n-in-Some.ensures.put
