-- The rows of the table of the places of clauses.
use Rattle.std.specs.Prelude.{ℕ, List, map}
use Rattle.cp_declaration.specs.declared.indicator.Indicator.{Indicator}
use Rattle.cp_assemble.specs.declared.places.Key.{Key}
use Rattle.cp_assemble.specs.declared.places.Places.TheInside.{Inside}
use Rattle.cp_assemble.specs.Index.{Row}

abbrev pub named : Key → Indicator
named k = record { name = k.name; arity = k.arity }

abbrev pub row_of : Key × List ℕ → Row
row_of e = record { pred = named e.0; places = e.1 }

abbrev pub rows_in : Inside → List Row
rows_in a = map row_of a.rows.entries
