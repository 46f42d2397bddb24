-- Pairs of terms that are still to be made one: a stack, whose top is last.
use Rattle.std.specs.Prelude.{ℕ, zero, suc, ◌+◌, ◌<◌, List, [], ◌∷◌, ◌++◌}
use Rattle.cp_term.specs.declared.cell.Cell.{Cell}
use Rattle.cp_heap.specs.State.{State, term}
use Rattle.cp_unify.specs.declared.pair.Pair.{Pair}

-- the terms on the left, and those on the right, from the top
abbrev pub lefts : State → List Pair → List Cell
lefts h [] = []
lefts h (p ∷ pairs) = lefts h pairs ++ term h p.left.at

abbrev pub rights : State → List Pair → List Cell
rights h [] = []
rights h (p ∷ pairs) = rights h pairs ++ term h p.right.at

-- all are at these first places
abbrev pub ArePairs : ℕ → List Pair → Type 0
ArePairs places [] = Unit {0}
ArePairs places (p ∷ pairs) = (p.left.at < places) × (p.right.at < places) × ArePairs places pairs

-- so many pairs of terms side by side, the first on top
abbrev pub pairs_from : ℕ → ℕ → ℕ → List Pair
pairs_from left right zero = []
pairs_from left right (suc k) = (record { left = record { at = left + k }; right = record { at = right + k } }) ∷ pairs_from left right k
