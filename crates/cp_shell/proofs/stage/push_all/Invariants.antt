use Rattle.std.proofs.Common.{◌≡◌, ◌++◌, take}
use Rattle.cp_shell.proofs.stage.push_all.Given as goal

abbrev pub invariant-loop-cell : goal.invariant-loop-cell
invariant-loop-cell l = l.cells ≡ l.fn.cells ++ take l.cell-index l.term
