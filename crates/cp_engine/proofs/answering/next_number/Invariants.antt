use Rattle.std.proofs.Common.{◌≡◌, max, drop}
use Rattle.cp_term.specs.Numbering.{next_variable}
use Rattle.cp_engine.proofs.answering.next_number.Given as goal

abbrev pub invariant-cells : goal.invariant-cells
invariant-cells l = max l.next (next_variable (drop l.cell-index l.cells)) ≡ next_variable l.cells
