use Rattle.std.proofs.Common.{◌≡◌, map, drop}
use Rattle.std.specs.Prelude.{fold}
use Rattle.cp_ops.specs.Operators.{with_row}
use Rattle.cp_ops.specs.Rows.{gathered, listed_row}
use Rattle.cp_ops.proofs.operators.Operators.listed.Given as goal

-- what is still to come, put into the rows so far, makes the whole
abbrev pub invariant-loop-priority : goal.invariant-loop-priority
invariant-loop-priority l = fold (λ done row. with_row row done) l.rows (map listed_row (drop l.priority-index l.list)) ≡ gathered (map listed_row l.list)
