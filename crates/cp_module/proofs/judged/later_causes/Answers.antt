use Rattle.std.proofs.Common.{[]}
use Rattle.cp_module.proofs.Reached.{reached_none, reached_next, reached_cause, reached_knows, drop_past}
use Rattle.cp_module.proofs.judged.later_causes.Goals as goal

pub loop-clause-preserved : goal.loop-clause-preserved
loop-clause-preserved c = λ base a done knows.
    reached_next _ _ _ _ _ _ _ _ c.loop-clause.clause-index c.clause-item.result c.loop-clause-test.true c.clause-item.is c.in_ok-found.ensures (c.loop-clause.invariant base a done knows)

pub returns-clause-causes : goal.returns-clause-causes
returns-clause-causes c = λ base a done knows.
    reached_cause base a done _ _ _ _ (drop_past c.args.clauses.now c.loop-clause.clause-index c.loop-clause-test.false) (c.loop-clause.invariant base a done knows)

pub returns-clause-knows : goal.returns-clause-knows
returns-clause-knows c = λ a done knows.
    reached_knows [] a done _ _ _ _ (drop_past c.args.clauses.now c.loop-clause.clause-index c.loop-clause-test.false) (c.loop-clause.invariant [] a done knows)
