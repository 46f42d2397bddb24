use Rattle.std.proofs.Common.{◌∙◌, ap, sym}
use Rattle.cp_code.specs.Machine as machine
use Rattle.cp_code.specs.Requests.{full_name, is_unbound}
use Rattle.cp_run.specs.Shown.{frames_of, goals_shown, here_of, instance_in}
use Rattle.cp_enter.proofs.calling.run_throw.Goals as goal

pub returns-then-is_unbound-clause-moved : goal.returns-then-is_unbound-clause-moved
returns-then-is_unbound-clause-moved c code own =
    let r = c.args.run.now in
    let t = instance_in (here_of r) c.args.ball.at in
    c.in_ok-raise_unbound.ensures.moved code c.args.level
    ∙ ap (λ b. machine.throws_if b t (full_name c.in_ok-context.context) (goals_shown (here_of r) c.args.rest) r.units r.copies (frames_of code r)) (sym c.if-is_unbound.true ∙ c.is_unbound.ensures)
    ∙ ap (λ x. machine.throws_if (is_unbound t) t x (goals_shown (here_of r) c.args.rest) r.units r.copies (frames_of code r)) c.in_ok-context.ensures

pub returns-clause-moved : goal.returns-clause-moved
returns-clause-moved c code own =
    let r = c.args.run.now in
    let t = instance_in (here_of r) c.args.ball.at in
    c.in_ok-throw_copy.ensures.moved code c.args.level
    ∙ ap (λ b. machine.throws_if b t (full_name c.in_ok-context.context) (goals_shown (here_of r) c.args.rest) r.units r.copies (frames_of code r)) (sym c.if-is_unbound.false ∙ c.is_unbound.ensures)
    ∙ ap (λ x. machine.throws_if (is_unbound t) t x (goals_shown (here_of r) c.args.rest) r.units r.copies (frames_of code r)) c.in_ok-context.ensures
