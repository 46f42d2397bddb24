use Rattle.std.proofs.Common.{◌<◌, length, ◌∙◌, ap, sym}
use Rattle.std.proofs.lemmas.Bool.{false≢true}
use Rattle.std.specs.Prelude.{map}
use Rattle.cp_term.specs.Substitution.{apply}
use Rattle.cp_heap.specs.State.{terms_at}
use Rattle.cp_code.specs.Requests.{full_name}
use Rattle.cp_run.specs.Shown.{bound, here_of, instance_in, moved}
use Rattle.cp_enter.specs.Rows.{goal_row}
use Rattle.cp_enter.proofs.EnterLaws.{extended-some, extended-qualified, some-of}
use Rattle.cp_enter.proofs.ExtendLaws.{length-terms}
use Rattle.cp_enter.proofs.entering.enter_seen.Goals as goal

pub returns-clause-moved : goal.returns-clause-moved
returns-clause-moved c code =
    let r = c.args.run.now in
    let s = bound (here_of r) in
    let some : 0 < length c.args.extra.now = some-of c.args.extra.now (λ e. false≢true (c.if-is_empty.ensures.1 e)) in
    c.in_ok-enter_longer.ensures.moved code
    ∙ ap (λ g. moved code r c.args.rest c.args.level (goal_row c.args.seer.now g (full_name c.args.context.now)))
    (sym (extended-some (instance_in (here_of r) c.args.goal.at) (map (apply s) (terms_at r.heap c.args.extra.now)) (length c.args.extra.now) (length-terms s r.heap c.args.extra.now) some (sym c.is_qualified.ensures ∙ c.if-is_qualified.false)))

pub returns-then-is_qualified-clause-moved : goal.returns-then-is_qualified-clause-moved
returns-then-is_qualified-clause-moved c code =
    let r = c.args.run.now in
    let s = bound (here_of r) in
    let some : 0 < length c.args.extra.now = some-of c.args.extra.now (λ e. false≢true (c.if-is_empty.ensures.1 e)) in
    c.in_ok-raise_not_callable.ensures.moved code c.args.level
    ∙ ap (λ g. moved code r c.args.rest c.args.level (goal_row c.args.seer.now g (full_name c.args.context.now)))
    (sym (extended-qualified (instance_in (here_of r) c.args.goal.at) (map (apply s) (terms_at r.heap c.args.extra.now)) (length c.args.extra.now) (length-terms s r.heap c.args.extra.now) some (sym c.is_qualified.ensures ∙ c.if-is_qualified.true)))
