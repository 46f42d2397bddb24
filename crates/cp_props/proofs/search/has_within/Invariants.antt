use Rattle.std.proofs.Common.{◌≡◌, map}
use Rattle.cp_heap.specs.State.{instance_at}
use Rattle.cp_code.specs.Properties.{has_within}
use Rattle.cp_code.specs.Programs.{type_of}
use Rattle.cp_props.specs.Search.{ends, attempts_cost, attempts_shown, AreLive}
use Rattle.cp_props.proofs.search.has_within.Given as goal

abbrev pub invariant-attempts : goal.invariant-attempts
invariant-attempts l = record {
  live : AreLive l.heap l.attempts;
  so_far : ends (map type_of l.types) (attempts_shown (map type_of l.types) l.heap l.attempts) l.passed ≡ has_within (map type_of l.types) l.fn.depth l.fn.name (instance_at l.heap l.fn.at.at);
}

abbrev pub decreases-attempts : goal.decreases-attempts
decreases-attempts l = attempts_cost (map type_of l.types) (attempts_shown (map type_of l.types) l.heap l.attempts)
