-- The rows of the table of marks.
use Rattle.std.specs.Prelude.{Bool, List, map}
use Rattle.cp_declaration.specs.declared.indicator.Indicator.{Indicator}
use Rattle.cp_assemble.specs.declared.mark_table.MarkKey.{MarkKey}
use Rattle.cp_assemble.specs.declared.mark_table.MarkTable.TheInside.{Inside}

abbrev pub marked : MarkKey → Indicator
marked k = record { name = k.name; arity = k.count }

abbrev pub row_of : MarkKey × List Bool → Indicator × List Bool
row_of e = (marked e.0, e.1)

abbrev pub rows_in : Inside → List (Indicator × List Bool)
rows_in t = map row_of t.rows.entries
