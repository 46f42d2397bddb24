use Rattle.std.proofs.Common.{◌++◌, ◌∷◌, [], sym, ◌∙◌, subst}
use Rattle.cp_call.specs.Machine.{IsInForm}
use Rattle.cp_code.specs.Programs.{objects_of}
use Rattle.cp_engine.specs.Walking.{code}
use Rattle.cp_engine.proofs.WalkLaws.{told-walks, asks-now, continues}
use Rattle.cp_engine.proofs.walks.go_on.Goals as goal

pub advance-requires-clause-walks : goal.advance-requires-clause-walks
advance-requires-clause-walks c =
    let r = c.requires.ready in (
      r.past ++ c.args.input ∷ [],
      told-walks c.the_machine_keeps_its_meaning.ensures.inputs (code c.args.code.now) c.args.started.now.goal r.past c.args.run.now c.tell.new.run r.due c.args.input r.walking r.asks c.in_ok-tell.ensures.stands (c.in_ok-tell.ensures.moved (code c.args.code.now)),
    )

pub returns-clause-ready : goal.returns-clause-ready
returns-clause-ready c =
    let r = c.requires.ready in
    let told = told-walks c.the_machine_keeps_its_meaning.ensures.inputs (code c.args.code.now) c.args.started.now.goal r.past c.args.run.now c.tell.new.run r.due c.args.input r.walking r.asks c.in_ok-tell.ensures.stands (c.in_ok-tell.ensures.moved (code c.args.code.now)) in
    record { past = r.past ++ c.args.input ∷ []; walking = c.in_ok-next.ensures.walks (r.past ++ c.args.input ∷ []) told; due = c.in_ok-next.next; asks = c.in_ok-next.ensures.next }

pub returns-clause-continues : goal.returns-clause-continues
returns-clause-continues c =
    let r = c.requires.ready in
    let told = told-walks c.the_machine_keeps_its_meaning.ensures.inputs (code c.args.code.now) c.args.started.now.goal r.past c.args.run.now c.tell.new.run r.due c.args.input r.walking r.asks c.in_ok-tell.ensures.stands (c.in_ok-tell.ensures.moved (code c.args.code.now)) in
    continues (code c.args.code.now) c.args.started.now.goal r.past c.args.input c.args.run.now c.advance.new.run r.walking (c.in_ok-next.ensures.walks (r.past ++ c.args.input ∷ []) told)

pub returns-clause-next : goal.returns-clause-next
returns-clause-next c =
    let r = c.requires.ready in
    let told = told-walks c.the_machine_keeps_its_meaning.ensures.inputs (code c.args.code.now) c.args.started.now.goal r.past c.args.run.now c.tell.new.run r.due c.args.input r.walking r.asks c.in_ok-tell.ensures.stands (c.in_ok-tell.ensures.moved (code c.args.code.now)) in
    let walks = c.in_ok-next.ensures.walks (r.past ++ c.args.input ∷ []) told in
    sym (c.the_machine_keeps_its_meaning.ensures.inputs (code c.args.code.now) c.args.started.now.goal _ c.in_ok-next.next c.in_ok-next.ensures.next).0
    ∙ continues (code c.args.code.now) c.args.started.now.goal r.past c.args.input c.args.run.now c.advance.new.run r.walking walks []

pub returns-clause-form : goal.returns-clause-form
returns-clause-form c =
    let r = c.requires.ready in
    let told = told-walks c.the_machine_keeps_its_meaning.ensures.inputs (code c.args.code.now) c.args.started.now.goal r.past c.args.run.now c.tell.new.run r.due c.args.input r.walking r.asks c.in_ok-tell.ensures.stands (c.in_ok-tell.ensures.moved (code c.args.code.now)) in
    let past = r.past ++ c.args.input ∷ [] in
    let walks = c.in_ok-next.ensures.walks past told in
    subst (IsInForm (objects_of c.args.code.now.program))
    (sym (asks-now c.the_machine_keeps_its_meaning.ensures.inputs (code c.args.code.now) c.args.started.now.goal past c.advance.new.run c.in_ok-next.next walks c.in_ok-next.ensures.next))
    (c.goals_ask_in_form.ensures.program c.args.code.now.program c.requires.good.lawful c.args.code.now.steps c.args.started.now.goal (past ++ []))
