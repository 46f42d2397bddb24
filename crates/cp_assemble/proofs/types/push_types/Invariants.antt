use Rattle.std.proofs.Common.{◌≡◌, ◌++◌, take}
use Rattle.std.specs.List.{filter_map}
use Rattle.cp_link.specs.Modules.{said}
use Rattle.cp_link.specs.Linked.{type_by}
use Rattle.cp_assemble.proofs.types.push_types.Given as goal

abbrev pub invariant-loop-clause : goal.invariant-loop-clause
invariant-loop-clause l = l.all ≡ l.initial.all ++ filter_map (λ c. type_by (said c)) (take l.clause-index l.clauses)
