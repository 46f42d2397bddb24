use Rattle.std.proofs.Common.{sym, ◌∙◌, ap}
use Rattle.cp_code.specs.Machine as machine
use Rattle.cp_code.specs.Programs.{code_of}
use Rattle.cp_run.specs.Shown.{moved}
use Rattle.cp_calls.proofs.exits.run_exit.Goals as goal

pub returns-in-Some-clause-moved : goal.returns-in-Some-clause-moved
returns-in-Some-clause-moved c budget first =
    let code = code_of c.args.program.now budget in
    c.in_ok-throw_check-in-Some.ensures.moved code c.args.level
    ∙ ap (λ o. moved code c.args.run.now c.args.rest c.args.level (λ rest s next l. machine.exits o c.args.pred rest s next l)) (sym c.in-Some.is ∙ c.in_ok-broken.ensures)
