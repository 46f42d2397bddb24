-- Clauses of types that are walked along their cells.
use Rattle.std.specs.Prelude.{ℕ, zero, suc, Bool, true, false, ◌&&◌, nat_eq, List, [], ◌∷◌, length, Option, codes}
use Rattle.cp_term.specs.declared.cell.Cell.{Cell}
use Rattle.cp_term.specs.declared.cell.Cell.TheVariants.{Var, Int, Atom, Func}
use Rattle.cp_term.specs.Preorder.{split_terms}
use Rattle.cp_code.specs.Bodies.{is}
use Rattle.cp_code.specs.Properties.{Place, TypeClause}
use Rattle.cp_props.specs.Demands.{Demand, all_demands, body_demands}

-- no compound, or one of the name `:-`
abbrev pub is_no_fact : List Cell → Bool
is_no_fact (Func f k ∷ cells) = is f ":-"
is_no_fact cells = true

-- a compound of one argument
abbrev pub is_unary : List Cell → Bool
is_unary (Func f (suc zero) ∷ cells) = true
is_unary cells = false

-- what is no clause of a type fits no term
abbrev pub no_clause : TypeClause
no_clause = record { pattern = []; body = [] }

-- the body of a fact
abbrev pub fact_body : List Cell
fact_body = Atom (codes "true") ∷ []

abbrev pub is_comma : Cell → Bool
is_comma (Var v) = false
is_comma (Int i) = false
is_comma (Atom a) = false
is_comma (Func f k) = is f "," && nat_eq k 2

abbrev pub is_conjunction : List Cell → Bool
is_conjunction [] = false
is_conjunction (c ∷ cells) = is_comma c

abbrev pub whole_body : List Place → List Cell → Option (List Demand)
whole_body places body = body_demands (suc (length body)) places body

-- what the bodies demand that the first n terms are
unfoldable pub scanned : List Place → ℕ → List Cell → Option (List Demand)
scanned places n cells = all_demands (whole_body places) (split_terms n cells)
