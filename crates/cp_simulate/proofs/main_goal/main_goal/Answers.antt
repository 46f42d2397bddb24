use Rattle.cp_simulate.proofs.Mains.{never_refused}
use Rattle.cp_simulate.proofs.main_goal.main_goal.Goals as goal

pub unreachable-requires : goal.unreachable-requires
unreachable-requires c = never_refused c.args.module_name.now c.in_ok-cells.cells c.from_cells.result c.in-Err.field-0 c.in_ok-cells.ensures c.from_cells.ensures c.in-Err.is
