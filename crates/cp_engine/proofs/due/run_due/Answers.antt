use Rattle.std.proofs.Common.{◌∙◌}
use Rattle.cp_code.specs.Programs.{code_of}
use Rattle.cp_engine.proofs.DueLaws.{due-moved}
use Rattle.cp_engine.proofs.due.run_due.Goals as due

pub returns-in-Call-clause-moved : due.returns-in-Call-clause-moved
returns-in-Call-clause-moved c budget own =
    c.in_ok-run_call-in-Call.ensures.moved (code_of c.args.program.now budget) own
    ∙ due-moved (code_of c.args.program.now budget) c.args.run.now c.args.rest c.args.level own c.args.seen.at.at c.args.seen.seer _ c.args.seen.control c.in-Call.is

pub returns-in-Catch-clause-moved : due.returns-in-Catch-clause-moved
returns-in-Catch-clause-moved c budget own =
    c.in_ok-run_catch-in-Catch.ensures.moved (code_of c.args.program.now budget) own
    ∙ due-moved (code_of c.args.program.now budget) c.args.run.now c.args.rest c.args.level own c.args.seen.at.at c.args.seen.seer _ c.args.seen.control c.in-Catch.is

pub returns-in-Throw-clause-moved : due.returns-in-Throw-clause-moved
returns-in-Throw-clause-moved c budget own =
    c.in_ok-run_throw-in-Throw.ensures.moved (code_of c.args.program.now budget) own
    ∙ due-moved (code_of c.args.program.now budget) c.args.run.now c.args.rest c.args.level own c.args.seen.at.at c.args.seen.seer _ c.args.seen.control c.in-Throw.is

pub returns-in-FindAll-clause-moved : due.returns-in-FindAll-clause-moved
returns-in-FindAll-clause-moved c budget own =
    c.in_ok-run_find_all-in-FindAll.ensures.moved (code_of c.args.program.now budget) own
    ∙ due-moved (code_of c.args.program.now budget) c.args.run.now c.args.rest c.args.level own c.args.seen.at.at c.args.seen.seer _ c.args.seen.control c.in-FindAll.is

pub returns-in-Plain-clause-moved : due.returns-in-Plain-clause-moved
returns-in-Plain-clause-moved c budget own =
    c.in_ok-run_plain-in-Plain.ensures.moved budget own
    ∙ due-moved (code_of c.args.program.now budget) c.args.run.now c.args.rest c.args.level own c.args.seen.at.at c.args.seen.seer _ c.args.seen.control c.in-Plain.is
