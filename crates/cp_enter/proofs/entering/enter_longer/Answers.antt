use Rattle.std.proofs.Common.{◌∙◌, ap, subst, sym}
use Rattle.std.specs.Prelude.{map}
use Rattle.cp_term.specs.Substitution.{apply}
use Rattle.cp_heap.specs.State.{terms_at}
use Rattle.cp_code.specs.Requests.{full_name}
use Rattle.cp_code.specs.Tree.{longer}
use Rattle.cp_run.specs.Gaining.{raise_row}
use Rattle.cp_run.specs.Shown.{bound, here_of, instance_in, moved}
use Rattle.cp_run.proofs.GainLaws.{gained-is}
use Rattle.cp_enter.specs.Extending.{IsGoalOr}
use Rattle.cp_enter.specs.Rows.{goal_row, body_row}
use Rattle.cp_enter.proofs.entering.enter_longer.Goals as goal

pub enter_term-requires-clause-holds : goal.enter_term-requires-clause-holds
enter_term-requires-clause-holds c = (gained-is c.args.run.now c.of.new.heap c.requires.holds c.in_ok-at.ensures.gains).extended.holds

pub raise-requires-clause-holds : goal.raise-requires-clause-holds
raise-requires-clause-holds c = (gained-is c.args.run.now c.of.new.heap c.requires.holds c.in_ok-at.ensures.gains).extended.holds

pub returns-in_ok-enter_term-in-Goal-clause-moved : goal.returns-in_ok-enter_term-in-Goal-clause-moved
returns-in_ok-enter_term-in-Goal-clause-moved c code =
    let r = c.args.run.now in
    let g = longer (instance_in (here_of r) c.args.goal.at) (map (apply (bound (here_of r))) (terms_at r.heap c.args.extra.now)) in
    let found = subst (λ e. IsGoalOr c.of.new.heap g e) c.in-Goal.is c.in_ok-at.ensures.goal in
    c.in_ok-enter_term-in-Goal.ensures.moved code
    ∙ (gained-is r c.of.new.heap c.requires.holds c.in_ok-at.ensures.gains).moved code c.args.rest c.args.level (body_row _ _ (full_name c.args.context.now)) c.requires.rest
    ∙ ap (λ x. moved code r c.args.rest c.args.level (goal_row c.args.seer.now x (full_name c.args.context.now))) (sym found.1)

pub returns-in_ok-raise-in-Error-clause-moved : goal.returns-in_ok-raise-in-Error-clause-moved
returns-in_ok-raise-in-Error-clause-moved c code =
    let r = c.args.run.now in
    let g = longer (instance_in (here_of r) c.args.goal.at) (map (apply (bound (here_of r))) (terms_at r.heap c.args.extra.now)) in
    let found = subst (λ e. IsGoalOr c.of.new.heap g e) c.in-Error.is c.in_ok-at.ensures.goal in
    c.in_ok-raise-in-Error.ensures.moved code c.args.level
    ∙ (gained-is r c.of.new.heap c.requires.holds c.in_ok-at.ensures.gains).moved code c.args.rest c.args.level (raise_row _ (full_name c.args.context.now)) c.requires.rest
    ∙ ap (λ x. moved code r c.args.rest c.args.level (goal_row c.args.seer.now x (full_name c.args.context.now))) (sym found.1)
