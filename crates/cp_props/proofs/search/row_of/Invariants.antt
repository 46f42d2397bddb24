use Rattle.std.proofs.Common.{◌≡◌, map, drop}
use Rattle.cp_code.specs.Properties.{row_named}
use Rattle.cp_code.specs.Programs.{type_of}
use Rattle.cp_props.proofs.search.row_of.Given as goal

abbrev pub invariant-types : goal.invariant-types
invariant-types l = row_named l.name (map type_of l.types) ≡ row_named l.name (drop l.at (map type_of l.types))
