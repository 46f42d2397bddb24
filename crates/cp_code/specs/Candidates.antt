-- Which clauses of a predicate are worth trying for a goal, by the first cell of its first argument.
use Rattle.std.specs.Prelude.{◌≡◌, ◌<◌, ◌≤◌, ◌⊎◌, ℕ, zero, suc, ◌-◌, Bool, false, IsTrue, List, [], map, drop, length, Option, Some, None, slice_get}
use Rattle.cp_term.specs.declared.cell.Cell.{Cell}
use Rattle.cp_term.specs.Numbering.{fresh}
use Rattle.cp_term.specs.Substitution.{Substitution, apply}
use Rattle.cp_term.specs.Unification.{unify}
use Rattle.cp_code.specs.declared.clause.Clause.{Clause}
use Rattle.cp_code.specs.declared.pred_info.PredInfo.{PredInfo}
use Rattle.cp_code.specs.Clauses.{head_of, first_argument, can_match}
use Rattle.cp_code.specs.Code.{Code}
use Rattle.cp_code.specs.Machine.{Frame, State, Tries, Fails, to, move}
use Rattle.cp_code.specs.Programs.{clause_of}
use Rattle.cp_code.specs.Tree.{Item, Left, Ends, Done, Tree, clauses as tree_of}

abbrev pub clauses_of : Option PredInfo → List Clause
clauses_of None = []
clauses_of (Some p) = p.clauses

-- the clauses of the predicate with this number; none where there is no such predicate
abbrev pub clauses_at : List PredInfo → ℕ → List Clause
clauses_at preds n = clauses_of (slice_get preds n)

abbrev pub clause_matches : Option Cell → Option Clause → Bool
clause_matches first None = false
clause_matches first (Some c) = can_match first (first_argument (head_of c.whole))

-- there is a clause with this number, and its first argument can match
abbrev pub matches_at : List Clause → Option Cell → ℕ → Bool
matches_at clauses first n = clause_matches first (slice_get clauses n)

-- no clause from this number on can match
abbrev pub HasNoneFrom : List Clause → Option Cell → ℕ → Type 0
HasNoneFrom clauses first from = (k : ℕ) → from ≤ k → matches_at clauses first k ≡ false

-- n is the first number from `from` on whose clause can match
pub record IsFirstFrom (clauses : List Clause) (first : Option Cell) (from n : ℕ) : Type 0 where
  pub within : from ≤ n
  pub matches : IsTrue (matches_at clauses first n)
  pub before : (k : ℕ) → from ≤ k → k < n → matches_at clauses first k ≡ false

-- ---- what leaving out the others does

-- the cell by which clauses are chosen for a goal, as it stands: that of its first argument, or none at all
abbrev pub IsChosenBy : Option Cell → List Cell → Type 0
IsChosenBy first goal = (first ≡ None) ⊎ (first ≡ first_argument goal)

-- a goal unifies with no head whose first argument cannot match its own
abbrev pub OthersDoNotUnify : Type 0
OthersDoNotUnify = (s : Substitution) (next : ℕ) (goal head : List Cell) → can_match (first_argument (apply s goal)) (first_argument head) ≡ false → unify s goal (fresh next head) ≡ None

-- the clauses from a number on have the tree of those from the first one on that can match
abbrev pub OthersAreLeftOut : Type 0
OthersAreLeftOut = (again : Tree) (clauses : List Clause) (goal : List Cell) (rest : List Item) (s : Substitution) (next level : ℕ) (left : Left) (first : Option Cell) (from n : ℕ)
    → IsChosenBy first (apply s goal) → IsFirstFrom clauses first from n
    → tree_of again (map clause_of (drop from clauses)) goal rest s next level left ≡ tree_of again (map clause_of (drop n clauses)) goal rest s next level left

-- where none can match, nothing is found
abbrev pub NoneFindNothing : Type 0
NoneFindNothing = (again : Tree) (clauses : List Clause) (goal : List Cell) (rest : List Item) (s : Substitution) (next level : ℕ) (left : Left) (first : Option Cell) (from : ℕ)
    → IsChosenBy first (apply s goal) → HasNoneFrom clauses first from
    → tree_of again (map clause_of (drop from clauses)) goal rest s next level left ≡ Ends Done left

-- so many moves of the machine
abbrev pub moved : Code → List Cell → ℕ → State → State
moved code goal zero st = st
moved code goal (suc k) st = moved code goal k (move code goal st)

-- the machine moves over the clauses that cannot match: to the first one that can, or, where there is none, to a failure
abbrev pub OthersAreMovedOver : Type 0
OthersAreMovedOver = (code : Code) (started : List Cell) (clauses : List Clause) (goal : List Cell) (rest : List Item) (s : Substitution) (next level units : ℕ) (copies : List (List Cell)) (frames : List Frame) (first : Option Cell) (from n : ℕ)
    → IsChosenBy first (apply s goal) → IsFirstFrom clauses first from n
    → moved code started (n - from) (to (Tries (map clause_of (drop from clauses)) goal rest s next level) units copies frames) ≡ to (Tries (map clause_of (drop n clauses)) goal rest s next level) units copies frames

abbrev pub NoneMovesToAFailure : Type 0
NoneMovesToAFailure = (code : Code) (started : List Cell) (clauses : List Clause) (goal : List Cell) (rest : List Item) (s : Substitution) (next level units : ℕ) (copies : List (List Cell)) (frames : List Frame) (first : Option Cell) (from : ℕ)
    → IsChosenBy first (apply s goal) → HasNoneFrom clauses first from
    → moved code started (suc (length clauses - from)) (to (Tries (map clause_of (drop from clauses)) goal rest s next level) units copies frames) ≡ to Fails units copies frames
