use Rattle.std.proofs.Common.{sym, ◌∙◌, ap}
use Rattle.cp_code.specs.Programs.{clause_of, code_of}
use Rattle.cp_run.specs.Shown.{rules_from, instance_in, here_of, shown, moved}
use Rattle.cp_run.specs.Entering.{clause_row}
use Rattle.cp_run.specs.Programs.{tries_row}
use Rattle.cp_run.proofs.run.Run.try_next.Goals as goal

pub returns-in_default-clause-moved : goal.returns-in_default-clause-moved
returns-in_default-clause-moved c steps =
    ap (shown (code_of c.args.program.now steps)) c.go.ensures
    ∙ ap (λ cs. moved (code_of c.args.program.now steps) c.args.self.now c.args.rest c.args.level (tries_row cs (instance_in (here_of c.args.self.now) c.args.goal.at))) (sym (c.in_default.ensures.rest steps))

pub returns-clause-moved : goal.returns-clause-moved
returns-clause-moved c steps =
    c.in_ok-try_clause.ensures.moved (code_of c.args.program.now steps)
    ∙ ap (λ n. moved (code_of c.args.program.now steps) c.args.self.now c.args.rest c.args.level (clause_row (rules_from (code_of c.args.program.now steps) c.args.pred n) (clause_of c.in-Some.clause.now) (instance_in (here_of c.args.self.now) c.args.goal.at))) c.in-Some-checked_add.ensures.1
    ∙ ap (λ cs. moved (code_of c.args.program.now steps) c.args.self.now c.args.rest c.args.level (tries_row cs (instance_in (here_of c.args.self.now) c.args.goal.at))) (sym (c.in-Some.ensures.rest steps))
