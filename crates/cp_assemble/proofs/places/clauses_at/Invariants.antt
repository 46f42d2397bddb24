use Rattle.std.proofs.Common.{◌≡◌, map, take, slice_get}
use Rattle.std.specs.List.{filter_map}
use Rattle.cp_link.specs.Linked.{clause_in}
use Rattle.cp_assemble.proofs.places.clauses_at.Given as goal

abbrev pub invariant-loop-at : goal.invariant-loop-at
invariant-loop-at l = l.all ≡ map (clause_in l.module_name) (filter_map (slice_get l.clauses) (take l.at-index l.places))
