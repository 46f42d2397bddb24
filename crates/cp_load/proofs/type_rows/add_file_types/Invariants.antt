use Rattle.std.proofs.Common.{drop}
use Rattle.cp_load.proofs.Typing.{AreGiven}
use Rattle.cp_load.proofs.type_rows.add_file_types.Given as goal

abbrev pub invariant-loop-pred : goal.invariant-loop-pred
invariant-loop-pred l = AreGiven l.fn.types l.part l.pred-items l.types l.cause (drop l.pred-index l.pred-items)
