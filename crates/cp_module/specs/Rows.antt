-- The rows of the table of predicates.
use Rattle.std.specs.Prelude.{List, map}
use Rattle.cp_module.specs.declared.above.Key.{Key}
use Rattle.cp_module.specs.declared.above.Above.TheInside.{Inside}
use Rattle.cp_module.specs.declared.known.Known.{Known}
use Rattle.cp_module.specs.Above.{Row}

abbrev pub row_of : Key × Known → Row
row_of e = record { pred = record { name = e.0.name; arity = e.0.arity }; known = e.1 }

abbrev pub rows_in : Inside → List Row
rows_in a = map row_of a.rows.entries
