-- Terms that are walked with a stack of places, whose top is last.
use Rattle.std.specs.Prelude.{◌≡◌, ℕ, ◌+◌, List, [], ◌∷◌, ◌++◌}
use Rattle.cp_term.specs.declared.cell.Cell.{Cell}
use Rattle.cp_term.specs.declared.cell.Cell.TheVariants.{Func}
use Rattle.cp_term.specs.Preorder.{arity_of}
use Rattle.cp_heap.specs.declared.reference.Ref.{Ref}
use Rattle.cp_heap.specs.State.{State, instance_at}

-- the instances of the terms that are still to come, from the top
abbrev pub pending : State → List Ref → List Cell
pending h [] = []
pending h (r ∷ places) = pending h places ++ instance_at h r.at

-- a compound of so many arguments
abbrev pub IsCompound : ℕ → List Cell → Type 0
IsCompound k cells = (f : List ℕ) × (rest : List Cell) × (cells ≡ Func f k ∷ rest)

-- the cells behind the first
abbrev pub behind_first : List Cell → List Cell
behind_first [] = []
behind_first (c ∷ cells) = cells

-- how many arguments the first has
abbrev pub first_arity : List Cell → ℕ
first_arity [] = 0
first_arity (c ∷ cells) = arity_of c
