-- The arguments of what stands at a place of a heap.
use Rattle.std.specs.Prelude.{ℕ, ◌<◌, List, take, drop}
use Rattle.std.specs.List.{flat_map}
use Rattle.cp_term.specs.declared.cell.Cell.{Cell}
use Rattle.cp_heap.specs.declared.word.Word.{Word}
use Rattle.cp_heap.specs.declared.word.Word.TheVariants.{Variable, Integer, Atom, Compound}

-- the place of the first argument, and how many there are; 0 where there is none
abbrev pub first_of : Word → ℕ
first_of (Variable v) = 0
first_of (Integer i) = 0
first_of (Atom a) = 0
first_of (Compound k f first) = first

abbrev pub count_of : Word → ℕ
count_of (Variable v) = 0
count_of (Integer i) = 0
count_of (Atom a) = 0
count_of (Compound k f first) = k

-- the cells of the arguments
abbrev pub argument_cells : List (List Cell) → Word → List Cell
argument_cells terms w = flat_map (λ t. t) (take (count_of w) (drop (first_of w) terms))

-- its name stands in the table
abbrev pub IsNamed : ℕ → Word → Type 0
IsNamed names (Variable v) = Unit {0}
IsNamed names (Integer i) = Unit {0}
IsNamed names (Atom a) = a < names
IsNamed names (Compound k f first) = f < names
