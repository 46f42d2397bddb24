use Rattle.std.proofs.Common.{◌≡◌, ℕ, true, List, [], length}
use Rattle.cp_term.specs.Preorder.{is_terms}
use Rattle.cp_code.specs.Bodies.{seen_from}
use Rattle.cp_props.proofs.body.unqualified.Given as goal

abbrev pub invariant-modules : goal.invariant-modules
invariant-modules l = (is_terms 1 l.rest ≡ true) × (m : List ℕ) × (seen_from [] l.goal ≡ seen_from m l.rest)

abbrev pub decreases-modules : goal.decreases-modules
decreases-modules l = length l.rest
