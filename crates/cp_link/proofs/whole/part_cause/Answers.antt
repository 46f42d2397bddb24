use Rattle.std.proofs.Common.{drop}
use Rattle.cp_link.proofs.Passing.{reached_next, reached_all, drop_past}
use Rattle.cp_link.proofs.whole.part_cause.Goals as goal

pub loop-clause-preserved : goal.loop-clause-preserved
loop-clause-preserved c =
    reached_next c.args.parts.now c.args.before.now c.args.part.now c.args.all.now c.loop-clause.kept c.in_ok-behind.behind c.loop-clause.cause c.in_ok-found.found c.as_slice-clauses.result.now c.loop-clause.clause-index c.clause-item.result c.requires c.loop-clause-test.true c.clause-item.is c.in_ok-found.ensures c.in_ok-behind.ensures c.loop-clause.invariant

pub returns : goal.returns
returns c =
    let clauses = c.as_slice-clauses.result.now in
    let i = c.loop-clause.clause-index in
    reached_all c.args.parts.now c.args.before.now c.args.part.now c.loop-clause.kept c.loop-clause.cause (drop i clauses) (drop_past clauses i c.loop-clause-test.false) c.loop-clause.invariant
