use Rattle.std.proofs.Common.{ap, ◌∙◌}
use Rattle.cp_module.specs.Causes.{cause_on, least}
use Rattle.cp_module.specs.Least.{soonest}
use Rattle.cp_load.proofs.Typing.{named_next}
use Rattle.cp_load.proofs.type_names.note_types.Goals as goal

pub loop-clause-preserved : goal.loop-clause-preserved
loop-clause-preserved c =
    named_next c.args.names.now c.args.clauses.now c.loop-clause.names c.note_type.new.names c.loop-clause.cause c.soonest-cause.result c.loop-clause.clause-index c.clause-item.result
    c.loop-clause-test.true c.clause-item.is c.in_ok-why.ensures.names
    (c.soonest-cause.ensures ∙ ap (λ x. soonest c.loop-clause.cause x) (c.on.ensures ∙ ap (λ w. least (cause_on c.clause-item.result.line w)) c.in_ok-why.ensures.why)) c.loop-clause.invariant
