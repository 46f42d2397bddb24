-- What a clause of a type demands of a term: that parts of it have properties, or nothing that can be met.
use Rattle.std.specs.Prelude.{ℕ, zero, suc, ◌<◌, Bool, false, if◌then◌else◌, List, [], ◌∷◌, ◌++◌, map, length, All, Option, Some, None}
use Rattle.std.specs.List.{list_all}
use Rattle.cp_term.specs.declared.cell.Cell.{Cell}
use Rattle.cp_term.specs.declared.cell.Cell.TheVariants.{Atom, Func}
use Rattle.cp_term.specs.Preorder.{arguments}
use Rattle.cp_goal.specs.Lists.{Spine, Proper, Partial, Improper, spine}
use Rattle.cp_heap.specs.State.{State, instance_at}
use Rattle.cp_code.specs.Bodies.{is, seen_from}
use Rattle.cp_code.specs.Properties.{Place, TypeClause, Test, matched, variable_term, first_name}
use Rattle.cp_props.specs.declared.demand.Demand as code

-- the term has the property of this name
pub record Demand : Type 0 where
  pub name : List ℕ
  pub term : List Cell

-- these and more
abbrev pub joined : List Demand → Option (List Demand) → Option (List Demand)
joined ds None = None
joined ds (Some more) = Some (ds ++ more)

abbrev pub both : Option (List Demand) → Option (List Demand) → Option (List Demand)
both None other = None
both (Some ds) other = joined ds other

-- ---- a goal

abbrev pub of_variable : List ℕ → Option (List Cell) → Option (List Demand)
of_variable name None = None
of_variable name (Some t) = Some ((record { name = name; term = t }) ∷ [])

abbrev pub of_each : List ℕ → List (List Cell) → List Demand
of_each name ts = map (λ t. record { name = name; term = t }) ts

abbrev pub of_spine : List ℕ → Spine → Option (List Demand)
of_spine name (Proper ts) = Some (of_each name ts)
of_spine name Partial = None
of_spine name Improper = None

abbrev pub of_elements : List ℕ → Option (List Cell) → Option (List Demand)
of_elements name None = None
of_elements name (Some t) = of_spine name (spine t)

-- `u(Y)` and `list(Y, u)`
abbrev pub demanded : List Place → List ℕ → List (List Cell) → Option (List Demand)
demanded places name (y ∷ []) = of_variable name (variable_term places y)
demanded places name (y ∷ u ∷ []) = if is name "list" then of_elements (first_name u) (variable_term places y) else None
demanded places name parts = None

abbrev pub goal_demands : List Place → List Cell → Option (List Demand)
goal_demands places (Func f k ∷ cells) = demanded places f (arguments (Func f k ∷ cells))
goal_demands places (Atom a ∷ cells) = if is a "true" then Some [] else None
goal_demands places cells = None

-- ---- a body

-- each of these terms
abbrev pub all_demands : (List Cell → Option (List Demand)) → List (List Cell) → Option (List Demand)
all_demands of_term [] = Some []
all_demands of_term (t ∷ ts) = both (of_term t) (all_demands of_term ts)

abbrev pub body_demands : ℕ → List Place → List Cell → Option (List Demand)
body_demands zero places body = None
body_demands (suc n) places (Func f (suc (suc zero)) ∷ cells) =
    if is f "," then all_demands (body_demands n places) (arguments (Func f 2 ∷ cells))
    else goal_demands places ((seen_from [] (Func f 2 ∷ cells)).goal)
body_demands (suc n) places body = goal_demands places ((seen_from [] body).goal)

-- ---- a clause

abbrev pub demands_at : List Cell → Option (List Place) → Option (List Demand)
demands_at body None = None
demands_at body (Some places) = body_demands (suc (length body)) places body

unfoldable pub demands : TypeClause → List Cell → Option (List Demand)
demands c t = demands_at c.body (matched c.pattern t)

-- all of them are met
abbrev pub are_met : Test → List Demand → Bool
are_met test ds = list_all (λ (d : Demand). test d.name d.term) ds

abbrev pub met : Test → Option (List Demand) → Bool
met test None = false
met test (Some ds) = are_met test ds

-- ---- demands of terms of a heap

abbrev pub demand_shown : State → code.Demand → Demand
demand_shown h d = record { name = d.name; term = instance_at h d.at.at }

abbrev pub demands_shown : State → List code.Demand → List Demand
demands_shown h ds = map (demand_shown h) ds

-- each is of a term of the heap
abbrev pub AreDemands : State → List code.Demand → Type 0
AreDemands h ds = All (λ (d : code.Demand). d.at.at < length h.terms) ds
