-- When the occurs check may be left out: a term from before speaks of new variables only where a binding crossed over.
use Rattle.std.specs.Prelude.{ℕ, ◌≤◌, ◌⊎◌, List, [], ◌∷◌, get_or}
use Rattle.cp_term.specs.declared.cell.Cell.{Cell}
use Rattle.cp_term.specs.Numbering.{next_variable}
use Rattle.cp_heap.specs.declared.bound.Bound.{Bound}

-- the first n variables are the old ones: each binding is of a new variable, or to a term that has old variables alone
abbrev pub AreUncrossed : ℕ → List (List Cell) → List Bound → Type 0
AreUncrossed n terms [] = Unit {0}
AreUncrossed n terms (b ∷ trail) = ((n ≤ b.variable) ⊎ (next_variable (get_or terms b.at []) ≤ n)) × AreUncrossed n terms trail
