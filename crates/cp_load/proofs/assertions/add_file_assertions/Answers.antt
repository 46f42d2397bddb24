use Rattle.std.proofs.Common.{ap, ◌∙◌}
use Rattle.std.specs.Prelude.{Ok}
use Rattle.cp_link.specs.Modules.{name_of}
use Rattle.cp_module.specs.Least.{soonest}
use Rattle.cp_load.proofs.Asserting.{read_next}
use Rattle.cp_load.proofs.assertions.add_file_assertions.Goals as goal

pub loop-clause-preserved : goal.loop-clause-preserved
loop-clause-preserved c =
    read_next c.args.program.now (name_of c.args.part.now) c.in_ok-module.module c.as_slice-clause-items.result.now c.loop-clause.program c.add_assertion.new.program c.loop-clause.cause c.soonest-cause.result c.in_ok-why.why
    c.loop-clause.clause-index c.clause-item.result c.loop-clause-test.true c.clause-item.is c.in_ok-module.ensures c.in_ok-why.ensures.why
    (c.soonest-cause.ensures ∙ ap (λ x. soonest c.loop-clause.cause x) c.on.ensures) (λ e. c.in_ok-why.ensures.added (ap Ok e)) c.in_ok-why.ensures.rest c.in_ok-why.ensures.arguments c.loop-clause.invariant
