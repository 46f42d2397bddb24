use Rattle.std.proofs.Common.{◌∙◌}
use Rattle.cp_load.proofs.Typing.{order_next}
use Rattle.cp_load.proofs.type_order.type_order.Goals as goal

pub loop-clause-preserved : goal.loop-clause-preserved
loop-clause-preserved c =
    order_next c.args.clauses.now c.as_slice.result.now c.loop-clause.order c.push_clause.new.order c.loop-clause.clause-index c.clause-item.result c.loop-clause-test.true c.clause-item.is
    (c.as_slice.ensures ∙ c.in_ok-names.ensures) c.in_ok-push_clause.ensures c.loop-clause.invariant
