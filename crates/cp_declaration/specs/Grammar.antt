-- How predicates and names stand in a declaration: the cells of p/n and of a list, and what is joined by commas.
use Rattle.std.specs.Prelude.{ℕ, ◌<◌, List, [], ◌∷◌, ◌++◌, pos, codes}
use Rattle.cp_term.specs.declared.cell.Cell.{Cell}
use Rattle.cp_term.specs.declared.cell.Cell.TheVariants.{Int, Atom, Func}
use Rattle.cp_declaration.specs.declared.indicator.Indicator.{Indicator}

-- p/n
abbrev pub indicator_cells : Indicator → List Cell
indicator_cells p = Func (codes "/") 2 ∷ Atom p.name ∷ Int (pos p.arity) ∷ []

abbrev pub name_cells : List ℕ → List Cell
name_cells a = Atom a ∷ []

-- the list of these terms
abbrev pub list_cells : List (List Cell) → List Cell
list_cells [] = Atom (codes "[]") ∷ []
list_cells (t ∷ ts) = Func (codes ".") 2 ∷ t ++ list_cells ts

-- a predicate has at most 255 arguments
abbrev pub HasArity : Indicator → Type 0
HasArity p = p.arity < 256

abbrev pub HaveArities : List Indicator → Type 0
HaveArities [] = Unit {0}
HaveArities (p ∷ ps) = HasArity p × HaveArities ps

-- The cells are p/n, or two terms of this form that are joined by a comma. The predicates are those from left to right.
pub data IsJoined : List Indicator → List Cell → Type 0 where
  Alone : (p : Indicator) → HasArity p → IsJoined (p ∷ []) (indicator_cells p)
  Both : (ps qs : List Indicator) (a b : List Cell) → IsJoined ps a → IsJoined qs b → IsJoined (ps ++ qs) (Func (codes ",") 2 ∷ a ++ b)
