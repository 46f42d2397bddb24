use Rattle.std.proofs.Common.{◌≡◌, ◌+◌, ◌*◌, ◌≤◌, drop}
use Rattle.std.specs.Prelude.{false}
use Rattle.cp_module.specs.Goals.{to_come}
use Rattle.cp_module.proofs.WalkLaws.{walk}
use Rattle.cp_module.proofs.goals.is_goal.Given as goal

abbrev pub invariant-loop-cell : goal.invariant-loop-cell
invariant-loop-cell l = record {
  terms : l.to_come.terms ≤ l.cell-index * 65535;
  goals : l.to_come.goals ≤ 1 + l.cell-index * 65535;
  walked : walk l.to_come (drop l.cell-index l.cells) ≡ walk (to_come false 0 1) l.cells;
}
