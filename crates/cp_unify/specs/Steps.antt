-- One step of unification, and how it goes on.
use Rattle.std.specs.Prelude.{◌≡◌, ℕ, ◌≤◌, Bool, false, cond, None, List, [], ◌∷◌, ◌++◌, length, take}
use Rattle.cp_term.specs.declared.cell.Cell.{Cell}
use Rattle.cp_term.specs.CellEq.{cell_eq}
use Rattle.cp_term.specs.Unification.{unify}
use Rattle.cp_heap.specs.State.{State, term, substitution, HaveVariablesBelow, Extends}
use Rattle.cp_heap.specs.Fresh.{AreUncrossed}
use Rattle.cp_unify.specs.declared.pair.Pair.{Pair}
use Rattle.cp_unify.specs.Pairs.{lefts, rights, ArePairs}
use Rattle.cp_unify.specs.declared.horizon.Horizon.{Horizon}

-- To unify the two terms and what stands behind them is to unify what stands behind them under the new bindings, or
-- fails.
abbrev pub Unifies : State → State → ℕ → ℕ → Bool → Type 0
Unifies old new left right goes_on =
    (xs ys : List Cell) → unify (substitution old) (term old left ++ xs) (term old right ++ ys) ≡ cond goes_on (unify (substitution new) xs ys) None

-- the first cells of two terms are not the same
abbrev pub FirstCellsDiffer : List Cell → List Cell → Type 0
FirstCellsDiffer (c ∷ cs) (d ∷ ds) = cell_eq c d ≡ false
FirstCellsDiffer [] ds = ⊥
FirstCellsDiffer cs [] = ⊥

-- The first terms have the first variables alone, and unless it is told otherwise no binding brought a later variable
-- into them.
pub record IsHorizon (z : Horizon) (h : State) : Type 0 where
  pub terms : z.terms ≤ length h.terms
  pub written : HaveVariablesBelow z.variables (take z.terms h.terms)
  pub uncrossed : z.crossed ≡ false → AreUncrossed z.variables h.terms h.trail

-- What is left to be unified on the stack comes to what the two terms come to.
pub record IsUnifying (old now : State) (a b : ℕ) (z : Horizon) (pairs : List Pair) : Type 0 where
  pub kept : now ≡ record old { trail = now.trail }
  pub extends : Extends old now
  pub pairs_live : ArePairs (length now.terms) pairs
  pub horizon : IsHorizon z now
  pub unifies : unify (substitution now) (lefts now pairs) (rights now pairs) ≡ unify (substitution old) (term old a) (term old b)
