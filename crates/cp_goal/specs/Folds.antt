-- Definitions over a term by what its parts give: a fold along its cells from the right, which keeps what each finished
-- term gives.
use Rattle.std.specs.Prelude.{List, [], ◌∷◌, take, drop}
use Rattle.cp_term.specs.declared.cell.Cell.{Cell}
use Rattle.cp_term.specs.Preorder.{arity_of}

-- what the terms that cells in preorder are give, where a term gives what this says of its first cell and of what its
-- arguments give
abbrev pub of_terms : {X : Type 0} → (Cell → List X → X) → List Cell → List X
of_terms f [] = []
of_terms f (c ∷ cells) = f c (take (arity_of c) (of_terms f cells)) ∷ drop (arity_of c) (of_terms f cells)
