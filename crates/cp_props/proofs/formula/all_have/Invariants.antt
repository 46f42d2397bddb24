use Rattle.std.proofs.Common.{◌≡◌, map, drop}
use Rattle.std.specs.List.{list_all}
use Rattle.cp_lists.specs.Places.{instances}
use Rattle.cp_code.specs.Properties.{has}
use Rattle.cp_code.specs.Programs.{type_of}
use Rattle.cp_props.proofs.formula.all_have.Given as goal

abbrev pub invariant-loop-place : goal.invariant-loop-place
invariant-loop-place l =
    list_all (has (map type_of l.types) l.name) (instances l.heap l.place-items) ≡ list_all (has (map type_of l.types) l.name) (instances l.heap (drop l.place-index l.place-items))
