-- The parts of a term, as `=../2` tells them.
use Rattle.std.specs.Prelude.{◌≡◌, ℕ, List, [], ◌∷◌}
use Rattle.cp_term.specs.declared.cell.Cell.{Cell}
use Rattle.cp_term.specs.declared.cell.Cell.TheVariants.{Atom, Func}
use Rattle.cp_term.specs.Preorder.{arguments}
use Rattle.cp_goal.specs.Errors.{word}

-- the name and the arguments of a compound; any other term by itself
abbrev pub parts : List Cell → List (List Cell)
parts (Func f k ∷ cells) = word f ∷ arguments (Func f k ∷ cells)
parts cells = cells ∷ []

abbrev pub IsAtom : List Cell → Type 0
IsAtom cells = (a : List ℕ) × (cells ≡ Atom a ∷ [])

-- a compound of this many arguments
abbrev pub IsCompound : ℕ → List Cell → Type 0
IsCompound k cells = (f : List ℕ) × (rest : List Cell) × (cells ≡ Func f k ∷ rest)
