-- Reading without recursion: the constructs that are open are kept in a list, and each step takes a lexeme in or closes one
-- construct. What a state still has to give never changes, so the last state gives what the grammar gives.
use Rattle.std.specs.Prelude.{ℕ, suc, ◌+◌, ◌*◌, List, [], ◌∷◌, ◌++◌, length, Result, Ok, codes}
use Rattle.cp_term.specs.declared.cell.Cell.{Cell}
use Rattle.cp_term.specs.declared.cell.Cell.TheVariants.{Func}
use Rattle.cp_ops.specs.Operators.{Ops}
use Rattle.cp_read.specs.Lexemes.{Lexeme}
use Rattle.cp_read.specs.Grammar.{Stop, ◌>>=◌, Read, primary, refused, ended, behind_close, behind_brace, behind_bracket, behind_end, Behind, closed_by, comma_and, bar_and, neither, behind_argument, behind_element, arguments, elements, tail, longer, any_term, empty_list, list_cell}

-- a construct that is open: what was read of it, and the priority that is allowed to the term that it is or begins
pub data Open : Type 0 where
  -- the last operand of an operator of this priority, behind these cells
  operand_of : List Cell → ℕ → ℕ → Open
  parentheses : ℕ → Open
  braces : ℕ → Open
  -- an argument of a compound with this name, behind the cells of so many arguments
  arguments_of : List ℕ → ℕ → List Cell → ℕ → Open
  -- an element of a list, behind the cells of those before
  elements_of : List Cell → ℕ → Open
  -- the tail of a list, behind the cells of its elements
  tail_of : List Cell → ℕ → Open

-- the term that begins with this one
abbrev pub go_on : Ops → ℕ → Read → Result Read Stop
go_on ops max left = longer ops (any_term ops) (suc (length (left.rest))) max left

abbrev pub all_arguments : Ops → List ℕ → ℕ → List Cell → List Lexeme → Result Read Stop
all_arguments ops called count cells ls = arguments ops (any_term ops) (suc (length ls)) called count cells ls

abbrev pub all_elements : Ops → List Cell → List Lexeme → Result Read Stop
all_elements ops cells ls = elements ops (any_term ops) (suc (length ls)) cells ls

-- what an argument gives, by what stands behind it
abbrev pub behind_one : Ops → List ℕ → ℕ → List Cell → Read → Behind → Result Read Stop
behind_one ops called count cells x (closed_by more) = primary (Func called (suc count) ∷ cells ++ x.cells) more
behind_one ops called count cells x (comma_and more) = all_arguments ops called (suc count) (cells ++ x.cells) more
behind_one ops called count cells x (bar_and more) = refused ops (x.rest)
behind_one ops called count cells x neither = refused ops (x.rest)

-- what an element gives, by what stands behind it
abbrev pub behind_item : Ops → List Cell → Read → Behind → Result Read Stop
behind_item ops cells x (closed_by more) = primary (cells ++ list_cell ∷ x.cells ++ empty_list ∷ []) more
behind_item ops cells x (comma_and more) = all_elements ops (cells ++ list_cell ∷ x.cells) more
behind_item ops cells x (bar_and more) = tail ops (any_term ops) (cells ++ list_cell ∷ x.cells) more
behind_item ops cells x neither = refused ops (x.rest)

-- what the construct gives once its inner term is read, as far as the construct itself goes
abbrev pub closed : Ops → Open → Read → Result Read Stop
closed ops (operand_of front priority max) x = Ok (record { cells = front ++ x.cells; priority = priority; rest = x.rest })
closed ops (parentheses max) x = ended ops (behind_close (x.rest)) (x.cells) (x.rest)
closed ops (braces max) x = ended ops (behind_brace (x.rest)) (Func (codes "{}") 1 ∷ x.cells) (x.rest)
closed ops (arguments_of called count cells max) x = behind_one ops called count cells x (behind_argument (x.rest))
closed ops (elements_of cells max) x = behind_item ops cells x (behind_element (x.rest))
closed ops (tail_of cells max) x = ended ops (behind_bracket (x.rest)) (cells ++ x.cells) (x.rest)

abbrev pub max_of : Open → ℕ
max_of (operand_of front priority max) = max
max_of (parentheses max) = max
max_of (braces max) = max
max_of (arguments_of called count cells max) = max
max_of (elements_of cells max) = max
max_of (tail_of cells max) = max

-- what the clause gives, with these constructs open, once the innermost gives this
abbrev pub plugged : Ops → List Open → Result Read Stop → Result Read Stop
plugged ops [] r = r >>= λ x. ended ops (behind_end (x.rest)) (x.cells) (x.rest)
plugged ops (o ∷ os) r = plugged ops os (r >>= λ x. closed ops o x >>= λ y. go_on ops (max_of o) y)

pub data State : Type 0 where
  -- a term of at most this priority has to come
  expects : List Open → ℕ → List Lexeme → State
  -- a term has come, which an infix operator may take in
  has : List Open → ℕ → Read → State

abbrev pub meaning : Ops → State → Result Read Stop
meaning ops (expects os max ls) = plugged ops os (any_term ops max ls)
meaning ops (has os max left) = plugged ops os (go_on ops max left)

-- Each step makes this less, and so reading ends.
abbrev pub weight : State → ℕ
weight (expects os max ls) = 3 * length ls + length os + 1
weight (has os max left) = 3 * length (left.rest) + length os
