-- How many variables a term has, once they are numbered by first occurrence.
use Rattle.std.proofs.Common.{◌≡◌, ℕ, suc, ◌∷◌, [], List, length, cond, nat_eq, true, false, refl, arith}
use Rattle.std.specs.Prelude.{max}
use Rattle.cp_term.specs.declared.cell.Cell.{Cell}
use Rattle.cp_term.specs.declared.cell.Cell.TheVariants.{Var, Int, Atom, Func}
use Rattle.cp_term.specs.Numbering.{place, seen_after, variables_from, variables, canon_from, canon, next_variable}

max-place : (seen : List ℕ) (v : ℕ) → max (length seen) (suc (place seen v)) ≡ length (seen_after seen (Var v))
max-place [] v = refl
max-place (u ∷ us) v =
    elim (nat_eq u v) as (λ t. max (suc (length us)) (suc (cond t 0 (suc (place us v)))) ≡ length (cond t (u ∷ us) (u ∷ seen_after us (Var v)))) [
      | true ↦ omega arith
      | false ↦ let rec = max-place us v in omega arith
    ]

next-canon_from : (seen : List ℕ) (cells : List Cell) → max (length seen) (next_variable (canon_from seen cells)) ≡ length (variables_from seen cells)
next-canon_from seen [] = omega arith
next-canon_from seen (Var v ∷ cells) =
    let here = max-place seen v in
    let rest = next-canon_from (seen_after seen (Var v)) cells in
    omega arith
next-canon_from seen (Int i ∷ cells) = next-canon_from seen cells
next-canon_from seen (Atom a ∷ cells) = next-canon_from seen cells
next-canon_from seen (Func f k ∷ cells) = next-canon_from seen cells

pub next-canon : (cells : List Cell) → next_variable (canon cells) ≡ length (variables cells)
next-canon cells = let all = next-canon_from [] cells in omega arith
