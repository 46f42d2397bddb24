use Rattle.std.proofs.Common.{◌≡◌, ◌≤◌, ℕ, true, length}
use Rattle.cp_term.specs.Preorder.{is_terms}
use Rattle.cp_props.specs.Patterns.{places_shown}
use Rattle.cp_props.specs.Scans.{scanned, whole_body}
use Rattle.cp_props.specs.Demands.{joined, demands_shown, AreDemands}
use Rattle.cp_props.proofs.body.put_body.Given as goal

abbrev pub invariant-goals : goal.invariant-goals
invariant-goals l = record {
  demands : AreDemands l.heap l.demands;
  len : length l.rest ≤ length l.body;
  left : (n : ℕ) × (is_terms n l.rest ≡ true)
      × (joined (demands_shown l.heap l.initial.demands) (whole_body (places_shown l.heap l.places) l.body)
      ≡ joined (demands_shown l.heap l.demands) (scanned (places_shown l.heap l.places) n l.rest));
}

abbrev pub decreases-goals : goal.decreases-goals
decreases-goals l = length l.rest
