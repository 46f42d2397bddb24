-- What contracts see of one of the two maps of an operator table.
use Rattle.std.specs.Prelude.{ℕ, List, map, fold, []}
use Rattle.std.specs.Borrow.{Bor}
use Rattle.cp_ops.specs.declared.fix.Fix.{Fix}
use Rattle.cp_ops.specs.declared.operators.Operators.TheInside.{Inside}
use Rattle.cp_ops.specs.Table.{OpRow}
use Rattle.cp_ops.specs.Operators.{with_row}

abbrev pub row_of : List ℕ × (ℕ × Fix) → OpRow
row_of e = record { name = e.0; priority = e.1.0; fix = e.1.1 }

-- the rows of a map, in the order in which their names were first declared
abbrev pub rows_in : Inside → List OpRow
rows_in m = map row_of m.rows.entries

abbrev pub listed_row : ℕ × Fix × Bor (List ℕ) → OpRow
listed_row e = record { name = e.2.now; priority = e.0; fix = e.1 }

-- the map that the rows of a list make, one after another
abbrev pub gathered : List OpRow → List OpRow
gathered rows = fold (λ done row. with_row row done) [] rows
