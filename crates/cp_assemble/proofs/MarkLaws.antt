-- Marks of arguments, of which one list is empty.
use Rattle.std.proofs.Common.{◌≡◌, refl, Bool, List, [], ◌∷◌}
use Rattle.cp_link.specs.Linked.{either_marks}

pub either_none : (marks : List Bool) → either_marks marks [] ≡ marks
either_none [] = refl
either_none (a ∷ marks) = refl
