-- A heap that gains terms.
use Rattle.std.specs.Prelude.{◌≡◌}
use Rattle.cp_heap.specs.State.{State, substitution, Extends}

-- terms were made, and nothing was bound; there is no new variable
pub record GainsTerms (old new : State) : Type 0 where
  pub bindings : substitution new ≡ substitution old
  pub extends : Extends old new
  pub trail : new.trail ≡ old.trail
  pub variables : new.variables ≡ old.variables
