use Rattle.std.proofs.Common.{sym}
use Rattle.std.specs.Option.{option_copied}
use Rattle.cp_run.proofs.ProgramLaws.{no-rules, none-concurrent, none-plain, none-remote, rules-rest, good-at}
use Rattle.cp_run.proofs.program_clauses.clause_at.Goals as goal

pub returns-in-Rules-clause-rest : goal.returns-in-Rules-clause-rest
returns-in-Rules-clause-rest c steps =
    rules-rest c.args.program.now steps c.args.pred c.args.from c.in_ok-info.info.now (option_copied c.get-in-Rules.result) (sym c.in_ok-info.ensures.value) c.in-Rules.is c.get-in-Rules.ensures.value

pub returns-in-Rules-clause-good : goal.returns-in-Rules-clause-good
returns-in-Rules-clause-good c good =
    good-at c.args.program.now c.args.pred c.args.from c.in_ok-info.info.now c.get-in-Rules.result good (sym c.in_ok-info.ensures.value) c.get-in-Rules.ensures.value

pub returns-in-Concurrent-clause-rest : goal.returns-in-Concurrent-clause-rest
returns-in-Concurrent-clause-rest c steps =
    no-rules c.args.program.now steps c.args.pred c.args.from c.in_ok-info.info.now _ (sym c.in_ok-info.ensures.value) c.in-Concurrent.is (none-concurrent c.in-Concurrent.field-0)

pub returns-in-Plain-clause-rest : goal.returns-in-Plain-clause-rest
returns-in-Plain-clause-rest c steps =
    no-rules c.args.program.now steps c.args.pred c.args.from c.in_ok-info.info.now _ (sym c.in_ok-info.ensures.value) c.in-Plain.is (none-plain c.in-Plain.field-0)

pub returns-in-Remote-clause-rest : goal.returns-in-Remote-clause-rest
returns-in-Remote-clause-rest c steps =
    no-rules c.args.program.now steps c.args.pred c.args.from c.in_ok-info.info.now _ (sym c.in_ok-info.ensures.value) c.in-Remote.is (none-remote c.in-Remote.field-0)
