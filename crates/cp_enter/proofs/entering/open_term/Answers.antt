use Rattle.std.proofs.Common.{◌∙◌, ap, arith}
use Rattle.cp_code.specs.Bodies.{body_of}
use Rattle.cp_code.specs.Programs.{or_fail}
use Rattle.cp_run.specs.Shown.{bound, frames_of, goals_shown, here_of, instance_in, moved}
use Rattle.cp_enter.specs.Rows.{opened_row}
use Rattle.cp_enter.proofs.EnterLaws.{opened-body}
use Rattle.cp_enter.proofs.entering.open_term.Goals as goal

pub returns-clause-moved : goal.returns-clause-moved
returns-clause-moved c code g ctx =
    let r = c.args.run.now in
    let t = instance_in (here_of r) c.args.goal.at in
    c.in_ok-open_goal.ensures.moved code c.args.level
    ∙ c.in_ok-at.ensures.gained.moved code c.args.rest c.args.level (opened_row _ c.in-Some.inner) c.requires.rest
    ∙ ap (λ x. moved code r c.args.rest c.args.level (opened_row (or_fail (body_of c.in_ok-seer.seer x)) c.in-Some.inner)) c.in_ok-at.ensures.term
    ∙ ap (λ m. moved code r c.args.rest c.args.level (opened_row (or_fail (body_of m t)) c.in-Some.inner)) c.in_ok-seer.ensures.cases
    ∙ opened-body (body_of c.args.seer.now t) c.in-Some.inner g ctx (goals_shown (here_of r) c.args.rest) (bound (here_of r)) r.heap.variables c.args.level r.units r.copies (frames_of code r) c.requires.body (grind arith)
