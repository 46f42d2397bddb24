-- The search for whether a term has a property: the attempts at the types that are tried, each for a demand of the one before
-- it, and how much is left to do.
use Rattle.std.specs.Prelude.{◌≡◌, ℕ, zero, suc, ◌+◌, ◌<◌, ◌≤◌, Bool, ◌&&◌, ◌||◌, List, [], ◌∷◌, map, length, drop, slice_get, All, Option, Some, None}
use Rattle.std.specs.List.{list_any}
use Rattle.cp_term.specs.declared.cell.Cell.{Cell}
use Rattle.cp_heap.specs.State.{State, instance_at}
use Rattle.cp_code.specs.Properties.{TypeRow, without_types, clause_of, row_named, fits_clause, has_within}
use Rattle.cp_props.specs.declared.attempt.Attempt as code
use Rattle.cp_props.specs.Demands.{Demand, demands, are_met, demands_shown, AreDemands}

-- an attempt at a type: the clauses that are left, and the demands that are left of the clause at hand
pub record Attempt : Type 0 where
  pub depth : ℕ
  pub term : List Cell
  pub clauses : List (List Cell)
  pub demands : List Demand

abbrev pub some_clause : List TypeRow → ℕ → List Cell → List (List Cell) → Bool
some_clause types n t clauses = list_any (λ c. fits_clause (has_within types n) t (clause_of c)) clauses

-- what comes of an attempt where what was tested last passed or not
unfoldable pub answer : List TypeRow → Attempt → Bool → Bool
answer types a passed = passed && are_met (has_within types a.depth) a.demands || some_clause types a.depth a.term a.clauses

-- and of all, the first of which is made for the others
abbrev pub ends : List TypeRow → List Attempt → Bool → Bool
ends types [] passed = passed
ends types (a ∷ attempts) passed = answer types a (ends types attempts passed)

-- ---- how much is left to do

abbrev pub Cost : Type 0
Cost = List ℕ → List Cell → ℕ

abbrev pub demands_cost : Cost → List Demand → ℕ
demands_cost cost [] = 0
demands_cost cost (d ∷ ds) = suc (cost d.name d.term + demands_cost cost ds)

abbrev pub clause_cost : Cost → Option (List Demand) → ℕ
clause_cost cost None = 1
clause_cost cost (Some ds) = suc (demands_cost cost ds)

abbrev pub clauses_cost : Cost → List Cell → List (List Cell) → ℕ
clauses_cost cost t [] = 0
clauses_cost cost t (c ∷ clauses) = clause_cost cost (demands (clause_of c) t) + clauses_cost cost t clauses

abbrev pub row_cost : Cost → List Cell → Option TypeRow → ℕ
row_cost cost t None = 0
row_cost cost t (Some r) = suc (clauses_cost cost t r.clauses)

abbrev pub test_cost : Cost → List Cell → Option Bool → Option TypeRow → ℕ
test_cost cost t (Some passed) row = 0
test_cost cost t None row = row_cost cost t row

abbrev pub cost_within : List TypeRow → ℕ → Cost
cost_within types zero name t = 0
cost_within types (suc n) name t = test_cost (cost_within types n) t (without_types name t) (row_named name types)

unfoldable pub attempt_cost : List TypeRow → Attempt → ℕ
attempt_cost types a = suc (demands_cost (cost_within types a.depth) a.demands + clauses_cost (cost_within types a.depth) a.term a.clauses)

abbrev pub attempts_cost : List TypeRow → List Attempt → ℕ
attempts_cost types [] = 0
attempts_cost types (a ∷ attempts) = attempt_cost types a + attempts_cost types attempts

-- ---- steps

-- the attempts have gone on from the last one, which was taken from them
pub record GoesOn (types : List TypeRow) (old : List Attempt) (a : Attempt) (passed : Bool) (new : List Attempt) (result : Bool) : Type 0 where
  pub answer_is : ends types new result ≡ ends types old (answer types a passed)
  pub less : attempts_cost types new < attempts_cost types old + attempt_cost types a

-- the attempts have gone on by what a term has
pub record Tests (types : List TypeRow) (n : ℕ) (name : List ℕ) (t : List Cell) (old new : List Attempt) (result : Bool) : Type 0 where
  pub answer_is : ends types new result ≡ ends types old (has_within types n name t)
  pub less : attempts_cost types new ≤ attempts_cost types old + cost_within types n name t

-- ---- attempts at terms of a heap

abbrev pub row_clauses : Option TypeRow → List (List Cell)
row_clauses None = []
row_clauses (Some r) = r.clauses

abbrev pub row_at : List TypeRow → Option ℕ → Option TypeRow
row_at types None = None
row_at types (Some n) = slice_get types n

abbrev pub clauses_at : List TypeRow → ℕ → List (List Cell)
clauses_at types row = row_clauses (slice_get types row)

abbrev pub attempt_shown : List TypeRow → State → code.Attempt → Attempt
attempt_shown types h a = record {
  depth = a.depth;
  term = instance_at h a.at.at;
  clauses = drop a.next (clauses_at types a.row);
  demands = drop a.met (demands_shown h a.demands);
}

abbrev pub attempts_shown : List TypeRow → State → List code.Attempt → List Attempt
attempts_shown types h attempts = map (attempt_shown types h) attempts

-- each is at a term of the heap
abbrev pub IsLive : State → code.Attempt → Type 0
IsLive h a = (a.at.at < length h.terms) × AreDemands h a.demands

abbrev pub AreLive : State → List code.Attempt → Type 0
AreLive h attempts = All (IsLive h) attempts
