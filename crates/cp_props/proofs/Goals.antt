-- Goals of bodies that demand nothing that can be met.
use Rattle.std.proofs.Common.{◌≡◌, ℕ, zero, suc, List, ◌∷◌, refl, ap}
use Rattle.std.specs.Prelude.{None}
use Rattle.std.proofs.Math.Nat.{add-zero}
use Rattle.cp_term.specs.declared.cell.Cell.{Cell}
use Rattle.cp_term.specs.declared.cell.Cell.TheVariants.{Func}
use Rattle.cp_term.specs.Preorder.{split_terms}
use Rattle.cp_code.specs.Properties.{Place}
use Rattle.cp_props.specs.Demands.{demanded, goal_demands}

pub other_arity : (places : List Place) (f : List ℕ) (k : ℕ) (cells : List Cell) → (k ≡ 1 → ⊥) → (k ≡ 2 → ⊥) → goal_demands places (Func f k ∷ cells) ≡ None
other_arity places f zero cells one two = refl
other_arity places f (suc zero) cells one two = absurd (one refl)
other_arity places f (suc (suc zero)) cells one two = absurd (two refl)
other_arity places f (suc (suc (suc k))) cells one two = ap (λ n. demanded places f (split_terms n cells)) (add-zero (suc (suc (suc k))))
