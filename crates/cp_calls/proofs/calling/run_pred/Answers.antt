use Rattle.std.proofs.Common.{None, Some, sym, ◌∙◌}
use Rattle.cp_heap.specs.State.{instance_at}
use Rattle.cp_code.specs.Programs.{code_of, pred_of}
use Rattle.cp_calls.proofs.GoalLaws.{functor-arguments}
use Rattle.cp_calls.proofs.SeenLaws.{seen-arity, seen-none, seen-past, seen-some, call-seen}
use Rattle.cp_calls.proofs.calling.run_pred.Goals as goal

pub call_pred-requires-clause-arity : goal.call_pred-requires-clause-arity
call_pred-requires-clause-arity c =
    functor-arguments (instance_at c.args.run.now.heap c.args.goal.at) c.args.name.now c.args.arity c.requires.functor
    ∙ sym (seen-arity c.args.program.now c.args.seer.now c.args.name.now c.args.arity c.in-Some.place c.in-Some-get.pred.now (sym c.in-Some.ensures) (sym c.in-Some-get.ensures.value))

pub returns-in_ok-call_pred-in-Some-get-clause-moved : goal.returns-in_ok-call_pred-in-Some-get-clause-moved
returns-in_ok-call_pred-in-Some-get-clause-moved c budget =
    let program = c.args.program.now in
    let pred = c.in-Some-get.pred.now in
    c.in_ok-call_pred-in-Some-get.ensures.moved budget
    ∙ call-seen (code_of program budget) c.args.run.now c.args.rest c.args.level c.args.seer.now c.args.name.now c.args.arity (instance_at c.args.run.now.heap c.args.goal.at) (Some (pred_of program.checks pred)) c.requires.functor c.requires.other
    (seen-some program budget c.args.seer.now c.args.name.now c.args.arity c.in-Some.place pred c.in-Some.ensures (sym c.in-Some-get.ensures.value))

pub returns-in_ok-raise_unknown-in-None-get-clause-moved : goal.returns-in_ok-raise_unknown-in-None-get-clause-moved
returns-in_ok-raise_unknown-in-None-get-clause-moved c budget =
    let program = c.args.program.now in
    c.in_ok-raise_unknown-in-None-get.ensures.moved (code_of program budget) c.args.level
    ∙ call-seen (code_of program budget) c.args.run.now c.args.rest c.args.level c.args.seer.now c.args.name.now c.args.arity (instance_at c.args.run.now.heap c.args.goal.at) None c.requires.functor c.requires.other
    (seen-past program budget c.args.seer.now c.args.name.now c.args.arity c.in-Some.place c.in-Some.ensures (sym c.in-None-get.ensures.value))

pub returns-in_ok-raise_unknown-in-None-clause-moved : goal.returns-in_ok-raise_unknown-in-None-clause-moved
returns-in_ok-raise_unknown-in-None-clause-moved c budget =
    let program = c.args.program.now in
    c.in_ok-raise_unknown-in-None.ensures.moved (code_of program budget) c.args.level
    ∙ call-seen (code_of program budget) c.args.run.now c.args.rest c.args.level c.args.seer.now c.args.name.now c.args.arity (instance_at c.args.run.now.heap c.args.goal.at) None c.requires.functor c.requires.other
    (seen-none program budget c.args.seer.now c.args.name.now c.args.arity c.in-None.ensures)
