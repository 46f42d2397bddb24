use Rattle.cp_run.specs.declared.run.Run.{Run}
use Rattle.cp_run.proofs.EnteringLaws.{extended-is}
use Rattle.cp_back.proofs.BelowLaws.{extended-trans}
use Rattle.cp_back.proofs.unifying.unify_ball.Goals as goal

pub unify_terms-requires-clause-holds : goal.unify_terms-requires-clause-holds
unify_terms-requires-clause-holds c = (extended-is c.args.run.now c.import.new.self c.requires.holds c.in_ok-thrown.ensures.extends).holds

pub returns-clause-extended : goal.returns-clause-extended
returns-clause-extended c =
    let now : Run = record c.args.run.now { heap = c.import.new.self } in
    extended-trans c.args.run.now now c.unify_terms.new.run c.requires.holds
    (extended-is c.args.run.now c.import.new.self c.requires.holds c.in_ok-thrown.ensures.extends) c.in_ok-unified.ensures.extended
