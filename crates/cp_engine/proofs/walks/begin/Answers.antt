use Rattle.std.proofs.Common.{[], sym, subst}
use Rattle.cp_call.specs.Machine.{IsInForm}
use Rattle.cp_code.specs.Programs.{objects_of}
use Rattle.cp_engine.specs.Walking.{code}
use Rattle.cp_engine.proofs.WalkLaws.{asks-now}
use Rattle.cp_engine.proofs.walks.begin.Goals as goal

pub advance-requires-clause-walks : goal.advance-requires-clause-walks
advance-requires-clause-walks c = ([], c.in_ok-run.ensures)

pub returns-clause-ready : goal.returns-clause-ready
returns-clause-ready c =
    record { past = []; walking = c.in_ok-next.ensures.walks [] c.in_ok-run.ensures; due = c.in_ok-next.next; asks = c.in_ok-next.ensures.next }

pub returns-clause-left : goal.returns-clause-left
returns-clause-left c inputs = (c.in_ok-next.ensures.walks [] c.in_ok-run.ensures).left inputs

pub returns-clause-next : goal.returns-clause-next
returns-clause-next c =
    asks-now c.the_machine_keeps_its_meaning.ensures.inputs (code c.args.code.now) c.args.started.now.goal [] c.advance.new.run c.in_ok-next.next (c.in_ok-next.ensures.walks [] c.in_ok-run.ensures) c.in_ok-next.ensures.next

pub returns-clause-form : goal.returns-clause-form
returns-clause-form c =
    subst (IsInForm (objects_of c.args.code.now.program))
    (sym (asks-now c.the_machine_keeps_its_meaning.ensures.inputs (code c.args.code.now) c.args.started.now.goal [] c.advance.new.run c.in_ok-next.next (c.in_ok-next.ensures.walks [] c.in_ok-run.ensures) c.in_ok-next.ensures.next))
    (c.goals_ask_in_form.ensures.program c.args.code.now.program c.requires.good.lawful c.args.code.now.steps c.args.started.now.goal [])
