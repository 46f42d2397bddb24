-- Formulas of assertions (Ciao manual, "The Ciao assertion language"): properties of the arguments of a head, joined by `,` and
-- `;`. A property is `t(X)` or `list(X, t)` of a variable X of the head, `true`, or `t1 * .. * tn` with a name for each argument.
-- The arguments are counted from 0. As a head comes first in its declaration and its arguments are distinct variables, they are
-- the variables 0, 1, .. in the numbering of the declaration's variables.
use Rattle.std.specs.Prelude.{ℕ, zero, suc, ◌<◌, Bool, true, ◌&&◌, nat_eq, nat_lt, if◌then◌else◌, List, [], ◌∷◌, map, reverse, slice_index_or, Option, Some, None}
use Rattle.cp_term.specs.declared.cell.Cell.{Cell}
use Rattle.cp_term.specs.declared.cell.Cell.TheVariants.{Var, Int, Atom, Func}
use Rattle.cp_goal.specs.Folds.{of_terms}
use Rattle.cp_code.specs.Bodies.{is}
use Rattle.cp_code.specs.Properties.{Prop, Of, ListOf, Both, Either, Always}
use Rattle.cp_code.specs.Programs.{prop_of}
use Rattle.cp_assertion.specs.declared.part.Part as code
use Rattle.cp_assertion.specs.declared.part.Part.TheVariants as part
use Rattle.cp_assertion.specs.Names.{is_property}

-- what a term is as a part of a formula
pub data Part : Type 0 where
  Variable : ℕ → Part
  Word : List ℕ → Part
  -- `t1 * .. * tk`, which are properties of the first k arguments
  Positions : (count : ℕ) → Prop → Part
  Formula : Prop → Part
  Other : Part

-- the formula on n arguments that a part is
abbrev pub formula_of : ℕ → Part → Option Prop
formula_of n (Variable v) = None
formula_of n (Word a) = if is a "true" then Some Always else if nat_eq n 1 then Some (Of a 0) else None
formula_of n (Positions k p) = if nat_eq k n then Some p else None
formula_of n (Formula p) = Some p
formula_of n Other = None

abbrev pub joined : (Prop → Prop → Prop) → Option Prop → Option Prop → Part
joined f (Some p) (Some q) = Formula (f p q)
joined f (Some p) None = Other
joined f None q = Other

-- a property of one more argument, if there is one
abbrev pub with_next : ℕ → ℕ → Prop → List ℕ → Part
with_next n k p t = if nat_lt k n then Positions (suc k) (Both p (Of t k)) else Other

abbrev pub times : ℕ → Part → Part → Part
times n (Word a) (Word t) = with_next n 1 (Of a 0) t
times n (Positions k p) (Word t) = with_next n k p t
times n left right = Other

abbrev pub of_argument : ℕ → ℕ → Prop → Part
of_argument n v p = if nat_lt v n then Formula p else Other

-- `t(X)`
abbrev pub property_part : ℕ → List ℕ → Part → Part
property_part n t (Variable v) = of_argument n v (Of t v)
property_part n t part = Other

-- `list(X, t)`
abbrev pub list_part : ℕ → Part → Part → Part
list_part n (Variable v) (Word t) = of_argument n v (ListOf t v)
list_part n left right = Other

abbrev pub binary_part : ℕ → List ℕ → Part → Part → Part
binary_part n f a b =
    if is f "," then joined Both (formula_of n a) (formula_of n b)
    else if is f ";" then joined Either (formula_of n a) (formula_of n b)
    else if is f "*" then times n a b
    else if is f "list" then list_part n a b
    else Other

abbrev pub compound_part : ℕ → List ℕ → (arity : ℕ) → List Part → Part
compound_part n f (suc zero) (a ∷ []) = property_part n f a
compound_part n f (suc (suc zero)) (a ∷ b ∷ []) = binary_part n f a b
compound_part n f k parts = Other

abbrev pub part_of : ℕ → Cell → List Part → Part
part_of n (Var v) parts = Variable v
part_of n (Int i) parts = Other
part_of n (Atom a) parts = Word a
part_of n (Func f k) parts = compound_part n f k parts

-- the formula on n arguments that a term is; its names are not looked up yet
unfoldable pub formula : ℕ → List Cell → Option Prop
formula n cells = formula_of n (slice_index_or (of_terms (part_of n) cells) 0 Other)

-- each name in it is that of a property
abbrev pub is_known : (is_type : List ℕ → Bool) → Prop → Bool
is_known is_type (Of name k) = is_property is_type name
is_known is_type (ListOf name k) = is_property is_type name
is_known is_type (Both p q) = is_known is_type p && is_known is_type q
is_known is_type (Either p q) = is_known is_type p && is_known is_type q
is_known is_type Always = true

-- a goal has n arguments, and the property speaks of these alone
abbrev pub SpeaksOf : ℕ → Prop → Type 0
SpeaksOf n (Of name k) = k < n
SpeaksOf n (ListOf name k) = k < n
SpeaksOf n (Both p q) = SpeaksOf n p × SpeaksOf n q
SpeaksOf n (Either p q) = SpeaksOf n p × SpeaksOf n q
SpeaksOf n Always = Unit {0}

-- ---- as the code has them

abbrev pub part_shown : code.Part → Part
part_shown (part.Variable v) = Variable v
part_shown (part.Word a) = Word a
part_shown (part.Positions k p) = Positions k (prop_of p)
part_shown (part.Formula p) = Formula (prop_of p)
part_shown part.Other = Other

-- the parts that are kept, from the last one on
abbrev pub stack_shown : List code.Part → List Part
stack_shown parts = reverse (map part_shown parts)
