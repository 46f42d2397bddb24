use Rattle.std.proofs.Common.{◌∙◌, map}
use Rattle.cp_module.specs.Causes.{clauses_of}
use Rattle.cp_link.specs.Linked.{clause_in}
use Rattle.cp_load.proofs.Typing.{given_next}
use Rattle.cp_load.proofs.type_rows.add_file_types.Goals as goal

pub loop-pred-preserved : goal.loop-pred-preserved
loop-pred-preserved c =
    let clauses = c.as_slice-clauses.ensures ∙ c.clauses.ensures.clauses in
    given_next c.args.types.now c.args.part.now c.as_slice-pred-items.result.now c.loop-pred.types c.add_type.new.types c.loop-pred.cause c.soonest-cause.result c.in_ok-found.found c.loop-pred.pred-index c.pred-item.result c.in_ok-own.own
    c.loop-pred-test.true c.pred-item.is (c.in_ok-own.ensures ∙ (λ i. map (clause_in (c.in_ok-module.ensures i)) (clauses_of (clauses i) c.pred-item.result)))
    c.in_ok-found.ensures.cause c.soonest-cause.ensures c.in_ok-found.ensures.types c.loop-pred.invariant
