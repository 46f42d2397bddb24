-- Predicates and names as they stand in a declaration, alone, joined by commas and in lists. A list is made of the functor
-- '.'/2 and the atom [], so that in preorder each element stands behind a '.', and [] stands last.
use Rattle.std.specs.Prelude.{ℕ, zero, suc, Bool, false, ◌&&◌, nat_eq, nat_lt, if◌then◌else◌, List, [], ◌∷◌, Option, Some, None, pos}
use Rattle.cp_term.specs.declared.cell.Cell.{Cell}
use Rattle.cp_term.specs.declared.cell.Cell.TheVariants.{Int, Atom, Func}
use Rattle.cp_declaration.specs.declared.indicator.Indicator.{Indicator}
use Rattle.cp_declaration.specs.Words.{is, is_package}

-- an item before others, where both are right
abbrev pub before : {X : Type 0} → Option X → Option (List X) → Option (List X)
before (Some x) (Some xs) = Some (x ∷ xs)
before (Some x) None = None
before None xs = None

-- the functor of a list
abbrev pub is_dot : Cell → Bool
is_dot (Func f k) = is f "." && nat_eq k 2
is_dot c = false

-- the list of no elements
abbrev pub is_empty_list : List Cell → Bool
is_empty_list (Atom a ∷ []) = is a "[]"
is_empty_list cells = false

-- the end of a list whose elements were read
abbrev pub at_end : {X : Type 0} → List Cell → Option (List X)
at_end cells = if is_empty_list cells then Some [] else None

-- ---- predicates

-- p/n, which is three cells, where p is a name and n a number of arguments that a predicate may have
abbrev pub indicator : Cell → Cell → Cell → Option Indicator
indicator (Func f (suc (suc zero))) (Atom p) (Int (pos n)) = if is f "/" && nat_lt n 256 then Some (record { name = p; arity = n }) else None
indicator c d e = None

-- a list of p/n
abbrev pub indicators : List Cell → Option (List Indicator)
indicators (dot ∷ c ∷ d ∷ e ∷ rest) = if is_dot dot then before (indicator c d e) (indicators rest) else None
indicators cells = at_end cells

abbrev pub is_comma : Cell → Bool
is_comma (Func f k) = is f "," && nat_eq k 2
is_comma c = false

-- one p/n, or several that are joined by commas: in preorder the commas stand before what they join
abbrev pub joined : List Cell → Option (List Indicator)
joined [] = Some []
joined (c ∷ []) = None
joined (c ∷ d ∷ []) = None
joined (c ∷ d ∷ e ∷ rest) = if is_comma c then joined (d ∷ e ∷ rest) else before (indicator c d e) (joined rest)

-- ---- names

abbrev pub name : Cell → Option (List ℕ)
name (Atom a) = Some a
name c = None

-- a list of atoms
abbrev pub names : List Cell → Option (List (List ℕ))
names (dot ∷ c ∷ rest) = if is_dot dot then before (name c) (names rest) else None
names cells = at_end cells

-- an atom
abbrev pub one_name : List Cell → Option (List (List ℕ))
one_name (Atom a ∷ []) = Some (a ∷ [])
one_name cells = None

-- ---- packages

abbrev pub is_package_name : Cell → Bool
is_package_name (Atom a) = is_package a
is_package_name c = false

-- one package
abbrev pub is_one_package : List Cell → Bool
is_one_package (c ∷ []) = is_package_name c
is_one_package cells = false

-- a list of packages
abbrev pub are_packages : List Cell → Bool
are_packages (dot ∷ c ∷ rest) = is_dot dot && is_package_name c && are_packages rest
are_packages cells = is_empty_list cells
