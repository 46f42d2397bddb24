use Rattle.std.proofs.Common.{◌≡◌, ◌+◌, ◌≤◌, ◌^◌, length}
use Rattle.cp_term.specs.Order.{term_cmp}
use Rattle.cp_unify.specs.Rows.{row}
use Rattle.cp_unify.proofs.comparison.+compare_rows.Given as goal

abbrev pub decreases-compare_rows : goal.decreases-compare_rows
decreases-compare_rows l = length (row l.heap.now l.left l.count)

abbrev pub invariant-row : goal.invariant-row
invariant-row l =
    (l.left + l.count ≤ length l.heap.terms) × (l.left + l.count ≤ 2 ^ 32) × (l.right + l.count ≤ length l.heap.terms) × (l.right + l.count ≤ 2 ^ 32)
    × (length (row l.heap l.left l.count) ≤ length (row l.heap l.fn.left l.fn.count))
    × (term_cmp (row l.heap l.left l.count) (row l.heap l.right l.count) ≡ term_cmp (row l.heap l.fn.left l.fn.count) (row l.heap l.fn.right l.fn.count))

abbrev pub decreases-row : goal.decreases-row
decreases-row l = length (row l.heap l.left l.count)
