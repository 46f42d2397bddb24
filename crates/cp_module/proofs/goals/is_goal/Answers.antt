use Rattle.std.proofs.Common.{sym}
use Rattle.cp_module.proofs.WalkLaws.{ends_in_none, ends_at_last}
use Rattle.cp_module.proofs.goals.is_goal.Goals as goal

pub returns-in-None : goal.returns-in-None
returns-in-None c = λ m.
    ends_in_none m c.loop-cell.to_come c.args.cells.now c.loop-cell.cell-index c.cell-item.result c.loop-cell-test.true c.cell-item.is (sym c.in-None.ensures.value) c.loop-cell.invariant.walked c.requires.term

pub returns : goal.returns
returns c = λ m.
    ends_at_last m c.loop-cell.to_come c.args.cells.now c.loop-cell.cell-index c.loop-cell-test.false c.loop-cell.invariant.walked c.requires.term
