-- The kinds of error terms (ISO/IEC 13211-1, 7.12.2).
use Rattle.std.specs.Prelude.{ℕ, List, [], ◌∷◌, ◌++◌, pos, codes}
use Rattle.cp_term.specs.declared.cell.Cell.{Cell}
use Rattle.cp_term.specs.declared.cell.Cell.TheVariants.{Int, Atom, Func}

abbrev pub word : List ℕ → List Cell
word name = Atom name ∷ []

abbrev pub with_one : List ℕ → List Cell → List Cell
with_one name argument = Func name 1 ∷ argument

abbrev pub with_two : List ℕ → List Cell → List Cell → List Cell
with_two name first second = Func name 2 ∷ first ++ second

-- a name with its number of arguments
abbrev pub indicator : List ℕ → ℕ → List Cell
indicator name arity = with_two (codes "/") (word name) (Int (pos arity) ∷ [])

abbrev pub instantiation_error : List Cell
instantiation_error = word (codes "instantiation_error")

abbrev pub type_error : List ℕ → List Cell → List Cell
type_error type culprit = with_two (codes "type_error") (word type) culprit

abbrev pub domain_error : List ℕ → List Cell → List Cell
domain_error domain culprit = with_two (codes "domain_error") (word domain) culprit

abbrev pub evaluation_error : List ℕ → List Cell
evaluation_error why = with_one (codes "evaluation_error") (word why)

abbrev pub resource_error : List ℕ → List Cell
resource_error resource = with_one (codes "resource_error") (word resource)

abbrev pub representation_error : List ℕ → List Cell
representation_error limit = with_one (codes "representation_error") (word limit)

abbrev pub syntax_error : List ℕ → List Cell
syntax_error what = with_one (codes "syntax_error") (word what)
