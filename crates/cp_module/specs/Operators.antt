-- When a declaration makes a name an operator: the table that it changes has no part in it.
use Rattle.std.specs.Prelude.{ℕ, Bool, ◌&&◌, not, List, is_some, ℤ}
use Rattle.cp_ops.specs.Operators.{priority_of, kind_of, is_fixed}

abbrev pub is_accepted : ℤ → List ℕ → List ℕ → Bool
is_accepted priority kind name = is_some (priority_of priority) && is_some (kind_of kind) && not (is_fixed name)
