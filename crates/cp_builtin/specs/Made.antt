-- Variables that a goal makes.
use Rattle.std.specs.Prelude.{◌≡◌, ℕ, ◌+◌, List, length}
use Rattle.std.specs.List.{flat_map}
use Rattle.cp_heap.specs.declared.reference.Ref.{Ref}
use Rattle.cp_heap.specs.State.{State, substitution, Extends, AreRefs, terms_at}
use Rattle.cp_goal.specs.Builtins.{new_variables}

-- these are so many new variables, and nothing else is new
pub record AreNew (k : ℕ) (old new : State) (refs : List Ref) : Type 0 where
  pub count : length refs ≡ k
  pub live : AreRefs new refs
  pub terms : flat_map (λ t. t) (terms_at new refs) ≡ new_variables k old.variables
  pub bindings : substitution new ≡ substitution old
  pub extends : Extends old new
  pub variables : new.variables ≡ old.variables + k
