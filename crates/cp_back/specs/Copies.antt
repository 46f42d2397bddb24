-- Terms that are put on a heap, each with new variables.
use Rattle.std.specs.Prelude.{◌≡◌, ◌+◌, List}
use Rattle.cp_term.specs.declared.cell.Cell.{Cell}
use Rattle.cp_heap.specs.declared.reference.Ref.{Ref}
use Rattle.cp_heap.specs.State.{State, substitution, Extends, AreRefs, terms_at}
use Rattle.cp_code.specs.Tree.{apart, variables_in}

-- the terms stand at these places, each with variables of its own
pub record AreImported (old new : State) (copies : List (List Cell)) (refs : List Ref) : Type 0 where
  pub live : AreRefs new refs
  pub terms : terms_at new refs ≡ apart old.variables copies
  pub variables : new.variables ≡ old.variables + variables_in copies
  pub bindings : substitution new ≡ substitution old
  pub extends : Extends old new
