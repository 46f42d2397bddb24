use Rattle.std.proofs.Common.{◌∙◌, ap, subst, map, get_or, []}
use Rattle.std.proofs.Common.{rules, w64}
use Rattle.std.proofs.lemmas.Int.{to_z-of_z}
use Rattle.cp_goal.specs.Builtins.{context}
use Rattle.std.specs.Prelude.{codes}
use Rattle.cp_code.specs.Programs.{code_of}
use Rattle.cp_code.specs.Tree as tree
use Rattle.cp_props.specs.Checks.{check_shown}
use Rattle.cp_enter.specs.Rows.{copy_row}
use Rattle.cp_run.specs.declared.run.Run.{Run}
use Rattle.cp_run.specs.Shown.{asking_shown, moved}
use Rattle.cp_run.specs.Starting.{IsNextOf, again_row}
use Rattle.cp_engine.specs.Walking.{answer_row}
use Rattle.cp_engine.proofs.MoveLaws.{item_row, first-moved, none-moved, due-next}
use Rattle.cp_engine.proofs.moves.run_goals.Goals as goal

pub returns-in-Moved-clause-moved : goal.returns-in-Moved-clause-moved
returns-in-Moved-clause-moved c budget =
    (subst (IsNextOf c.args.run.now c.run_next.new.self c.args.goals c.args.level) c.in-Moved.is c.in_ok-run_next.ensures).0 (code_of c.args.program.now budget) c.args.started.now.goal

pub returns-in_ok-run_due-in-Due-clause-moved : goal.returns-in_ok-run_due-in-Due-clause-moved
returns-in_ok-run_due-in-Due-clause-moved c budget =
    due-next (code_of c.args.program.now budget) c.args.started.now.goal c.args.run.now c.run_next.new.self c.run_due.new.run c.args.goals c.in-Due.own c.in-Due.rest c.args.level c.in-Due.seen
    (subst (IsNextOf c.args.run.now c.run_next.new.self c.args.goals c.args.level) c.in-Due.is c.in_ok-run_next.ensures)
    (c.in_ok-run_due-in-Due.ensures.moved budget c.in-Due.own)

pub returns-in_ok-run_answer-in-Answer-clause-moved : goal.returns-in_ok-run_answer-in-Answer-clause-moved
returns-in_ok-run_answer-in-Answer-clause-moved c budget =
    let code = code_of c.args.program.now budget in
    let g = c.args.started.now.goal in
    let n = subst (IsNextOf c.args.run.now c.run_next.new.self c.args.goals c.args.level) c.in-Answer.is c.in_ok-run_next.ensures in
    c.in_ok-run_answer-in-Answer.ensures.moved c.args.program.now c.requires.started budget c.args.level
    ∙ ap (λ (r : Run). moved code r c.args.goals c.args.level (answer_row code g)) n.1
    ∙ none-moved code g c.args.run.now c.args.goals c.args.level n.0

pub returns-in_ok-run_copy-in-Copy-clause-moved : goal.returns-in_ok-run_copy-in-Copy-clause-moved
returns-in_ok-run_copy-in-Copy-clause-moved c budget =
    let code = code_of c.args.program.now budget in
    let g = c.args.started.now.goal in
    let n = subst (IsNextOf c.args.run.now c.run_next.new.self c.args.goals c.args.level) c.in-Copy.is c.in_ok-run_next.ensures in
    let ctx = context c.in-Copy.seer (codes "findall") 3 in
    c.in_ok-run_copy-in-Copy.ensures.moved code c.args.level
    ∙ ap (λ (r : Run). moved code r c.in-Copy.rest c.args.level (copy_row (get_or r.heap.terms c.in-Copy.template.at []) ctx)) n.3
    ∙ first-moved code g c.args.run.now c.args.goals c.in-Copy.rest c.args.level (tree.Copy (get_or c.args.run.now.heap.terms c.in-Copy.template.at []) ctx) n.0

pub returns-in_ok-ask_again-in-Ask-clause-moved : goal.returns-in_ok-ask_again-in-Ask-clause-moved
returns-in_ok-ask_again-in-Ask-clause-moved c budget =
    let code = code_of c.args.program.now budget in
    let g = c.args.started.now.goal in
    let n = subst (IsNextOf c.args.run.now c.run_next.new.self c.args.goals c.args.level) c.in-Ask.is c.in_ok-run_next.ensures in
    c.in_ok-ask_again-in-Ask.ensures.moved code g
    ∙ ap (λ z. moved code c.run_next.new.self c.in-Ask.rest c.args.level (again_row code g (asking_shown c.run_next.new.self.heap.terms c.in-Ask.asking) z)) (to_z-of_z w64 c.in-Ask.place (search rules))
    ∙ ap (λ (r : Run). moved code r c.in-Ask.rest c.args.level (again_row code g (asking_shown r.heap.terms c.in-Ask.asking) c.in-Ask.place)) n.3
    ∙ first-moved code g c.args.run.now c.args.goals c.in-Ask.rest c.args.level (tree.AskFrom (asking_shown c.args.run.now.heap.terms c.in-Ask.asking) c.in-Ask.place) n.0

pub returns-in_ok-run_exit-in-Exit-clause-moved : goal.returns-in_ok-run_exit-in-Exit-clause-moved
returns-in_ok-run_exit-in-Exit-clause-moved c budget =
    let code = code_of c.args.program.now budget in
    let g = c.args.started.now.goal in
    let n = subst (IsNextOf c.args.run.now c.run_next.new.self c.args.goals c.args.level) c.in-Exit.is c.in_ok-run_next.ensures in
    let exit : Run → tree.Item = λ (r : Run). tree.Exit c.in-Exit.pred (map check_shown c.in-Exit.checks) (get_or r.heap.terms c.in-Exit.goal.at []) in
    c.in_ok-run_exit-in-Exit.ensures.moved budget g
    ∙ ap (λ (r : Run). moved code r c.in-Exit.rest c.args.level (item_row code g (exit r))) n.3
    ∙ first-moved code g c.args.run.now c.args.goals c.in-Exit.rest c.args.level (exit c.args.run.now) n.0
