use Rattle.std.proofs.Common.{◌≡◌, max, drop}
use Rattle.cp_term.specs.Numbering.{next_variable}
use Rattle.cp_heap.proofs.heap.import.next_number.Given as goal

abbrev pub invariant-next : goal.invariant-next
invariant-next l = max l.next (next_variable (drop l.cell-index l.cells)) ≡ next_variable l.cells
