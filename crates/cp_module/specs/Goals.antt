-- Which terms are goals, cell by cell: a walk along the cells in preorder with what is still to come.
use Rattle.std.specs.Prelude.{ℕ, zero, suc, ◌+◌, Bool, true, false, ◌||◌, if◌then◌else◌, List, [], ◌∷◌, Option, Some, None}
use Rattle.cp_term.specs.declared.cell.Cell.{Cell}
use Rattle.cp_term.specs.declared.cell.Cell.TheVariants.{Var, Int, Atom, Func}
use Rattle.cp_term.specs.Preorder.{terms_after}
use Rattle.cp_code.specs.Bodies.{is}
use Rattle.cp_module.specs.declared.to_come.Behind.{Behind}
use Rattle.cp_module.specs.declared.to_come.Behind.TheVariants.{NoGoal, Goals, Qualified, Terms}
use Rattle.cp_module.specs.declared.to_come.ToCome.{ToCome}

-- `,`, `;` and `->` join two goals
abbrev pub joins : List ℕ → Bool
joins f = is f "," || is f ";" || is f "->"

abbrev pub behind_functor : List ℕ → ℕ → Behind
behind_functor f (suc zero) = if is f "\\+" then Goals 1 else Terms 1
behind_functor f (suc (suc zero)) = if joins f then Goals 2 else if is f ":" then Qualified else Terms 2
behind_functor f k = Terms k

-- what has to stand behind the first cell of a goal
abbrev pub behind_first : Cell → Behind
behind_first (Var v) = Goals 0
behind_first (Int i) = NoGoal
behind_first (Atom a) = Goals 0
behind_first (Func f k) = behind_functor f k

abbrev pub to_come : Bool → ℕ → ℕ → ToCome
to_come named terms goals = record { named = named; terms = terms; goals = goals }

abbrev pub after_name : ℕ → ℕ → Cell → Option ToCome
after_name terms goals (Atom a) = Some (to_come false terms goals)
after_name terms goals c = None

-- a goal has begun, and behind it so many goals are to come
abbrev pub after_first : ℕ → Behind → Option ToCome
after_first goals NoGoal = None
after_first goals (Goals n) = Some (to_come false 0 (n + goals))
after_first goals Qualified = Some (to_come true 0 (suc goals))
after_first goals (Terms k) = Some (to_come false k goals)

-- what is to come behind a cell, unless it is none that may stand there
abbrev pub after : Bool → ℕ → ℕ → Cell → Option ToCome
after true terms goals c = after_name terms goals c
after false (suc terms) goals c = Some (to_come false (terms_after c terms) goals)
after false zero (suc goals) c = after_first goals (behind_first c)
after false zero zero c = None

abbrev pub after_cell : ToCome → Cell → Option ToCome
after_cell s c = after s.named s.terms s.goals c
