use Rattle.std.proofs.Common.{◌∙◌, sym}
use Rattle.cp_code.specs.Bodies.{body_of}
use Rattle.cp_code.specs.Requests.{full_name}
use Rattle.cp_run.specs.Shown.{bound, frames_of, goals_shown, here_of, instance_in}
use Rattle.cp_enter.proofs.EnterLaws.{no-body}
use Rattle.cp_enter.proofs.entering.enter_term.Goals as goal

pub returns-clause-moved : goal.returns-clause-moved
returns-clause-moved c code =
    let r = c.args.run.now in
    let t = instance_in (here_of r) c.args.goal.at in
    c.in_ok-raise_not_callable.ensures.moved code c.args.level
    ∙ no-body (body_of c.args.seer.now t) t (full_name c.args.context.now) (goals_shown (here_of r) c.args.rest) (bound (here_of r)) r.heap.variables c.args.level r.units r.copies (frames_of code r)
    (sym (c.in_ok-is_body.ensures c.args.seer.now) ∙ c.if-branch.false)
