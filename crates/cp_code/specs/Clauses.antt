-- Clauses as terms (ISO/IEC 13211-1, 6.2.1 and 7.5): `H :- B` is a rule with the head H and the body B, and any other term
-- is a fact, which is its own head.
use Rattle.std.specs.Prelude.{Bool, true, false, ◌&&◌, nat_eq, cond, List, [], ◌∷◌, Option, Some, None}
use Rattle.cp_term.specs.declared.cell.Cell.{Cell}
use Rattle.cp_term.specs.declared.cell.Cell.TheVariants.{Var, Int, Atom, Func}
use Rattle.cp_term.specs.CellEq.{cell_eq}
use Rattle.cp_term.specs.Preorder.{take_terms, drop_terms}
use Rattle.cp_code.specs.Bodies.{is}

-- `:-` with two arguments
abbrev pub is_neck : Cell → Bool
is_neck (Var v) = false
is_neck (Int i) = false
is_neck (Atom a) = false
is_neck (Func f k) = is f ":-" && nat_eq k 2

abbrev pub is_rule : List Cell → Bool
is_rule [] = false
is_rule (c ∷ cells) = is_neck c

abbrev pub head_of : List Cell → List Cell
head_of [] = []
head_of (c ∷ cells) = cond (is_neck c) (take_terms 1 cells) (c ∷ cells)

-- the body as a term; a fact has none
abbrev pub body_term : List Cell → Option (List Cell)
body_term [] = None
body_term (c ∷ cells) = cond (is_neck c) (Some (drop_terms 1 cells)) None

-- ---- first arguments

-- the first cell of a compound's first argument, which stands behind the functor
abbrev pub first_argument : List Cell → Option Cell
first_argument (Func f k ∷ c ∷ cells) = Some c
first_argument cells = None

-- terms that begin with these cells may unify: one of the two is unbound, or both are the same integer, the same atom, or
-- compounds of the same functor and arity
abbrev pub may_unify : Cell → Cell → Bool
may_unify (Var u) d = true
may_unify c (Var v) = true
may_unify c d = cell_eq c d

-- the first argument of a goal can match that of a head; nothing is said where one of them has no argument
abbrev pub can_match : Option Cell → Option Cell → Bool
can_match None own = true
can_match (Some c) None = true
can_match (Some c) (Some d) = may_unify c d
