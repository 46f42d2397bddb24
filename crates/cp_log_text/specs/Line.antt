-- A line of a log is the text of one term. The term is told by its parts in preorder: functors, and whole terms. The
-- variables of each part are apart from those of the parts before it, and have the next numbers, so that a line's variables
-- are numbered by first occurrence. The log is this project's own.
use Rattle.std.specs.Prelude.{ℕ, ◌+◌, ℤ, pos, List, [], ◌∷◌, ◌++◌, codes}
use Rattle.std.specs.List.{flat_map}
use Prim.Native.String.{String}
use Rattle.cp_term.specs.declared.cell.Cell.{Cell}
use Rattle.cp_term.specs.declared.cell.Cell.TheVariants.{Int, Atom, Func}
use Rattle.cp_term.specs.Numbering.{fresh, next_variable}
use Rattle.cp_ops.specs.Standard.{standard}
use Rattle.cp_ops.specs.Text.{text_of, quoting}

-- the parts, with their variables numbered from n on
abbrev pub apart_from : ℕ → List (List Cell) → List Cell
apart_from n [] = []
apart_from n (part ∷ parts) = fresh n part ++ apart_from (n + next_variable part) parts

-- how many variables the parts have
abbrev pub variables_in : List (List Cell) → ℕ
variables_in [] = 0
variables_in (part ∷ parts) = next_variable part + variables_in parts

-- the term with these parts
abbrev pub term_with : List (List Cell) → List Cell
term_with parts = apart_from 0 parts

-- a functor, which its arguments follow
abbrev pub functor : String → ℕ → List Cell
functor name arity = Func (codes name) arity ∷ []

-- atoms and integers as terms
abbrev pub atom : List ℕ → List Cell
atom name = Atom name ∷ []

abbrev pub word : String → List Cell
word name = atom (codes name)

abbrev pub integer : ℤ → List Cell
integer i = Int i ∷ []

abbrev pub number : ℕ → List Cell
number n = integer (pos n)

-- the parts of the list of these terms (ISO/IEC 13211-1, 6.3.5), without its end and with it
abbrev pub element_parts : List (List Cell) → List (List Cell)
element_parts terms = flat_map (λ t. functor "." 2 ∷ t ∷ []) terms

abbrev pub list_parts : List (List Cell) → List (List Cell)
list_parts terms = element_parts terms ++ word "[]" ∷ []

-- the text of a line: the term as `writeq` writes it under the standard operators, a full stop and a newline
unfoldable pub line_text : List Cell → List ℕ
line_text line = text_of quoting standard line ++ 46 ∷ 10 ∷ []

-- the text of lines, one after another
abbrev pub lines_text : List (List Cell) → List ℕ
lines_text lines = flat_map line_text lines
