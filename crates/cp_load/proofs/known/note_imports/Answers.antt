use Rattle.std.proofs.Common.{ap, ◌∙◌, None}
use Rattle.std.specs.Prelude.{nat_lt}
use Rattle.cp_module.specs.declared.why.Why.TheVariants as why
use Rattle.cp_module.specs.Causes.{unless, cause_on, least}
use Rattle.cp_module.specs.Least.{soonest}
use Rattle.cp_load.proofs.Crowding.{noted_next}
use Rattle.cp_load.proofs.known.note_imports.Goals as goal

pub loop-clause-preserved : goal.loop-clause-preserved
loop-clause-preserved c =
    let line = c.clause-item.result.line in
    noted_next c.args.known.now c.loop-clause.known c.note_import.new.known c.args.file.now c.args.clauses.now c.loop-clause.clause-index c.clause-item.result c.loop-clause.cause c.soonest-cause.result
    c.loop-clause-test.true c.clause-item.is c.in_ok-note_import.ensures
    (c.soonest-cause.ensures ∙ ap (λ x. soonest c.loop-clause.cause x) (c.on.ensures ∙ ap (λ w. least (cause_on line w)) (c.crowd.ensures ∙ ap (λ n. unless (nat_lt 64 n) why.TooManyModules None) c.len.ensures)))
    c.loop-clause.invariant
