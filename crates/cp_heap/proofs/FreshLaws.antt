-- A new variable does not occur in a term from before, as long as no binding crossed over.
use Rattle.std.proofs.Common.{◌≡◌, ℕ, ◌<◌, ◌≤◌, inl, inr, Bool, true, false, cond, nat_eq, List, [], ◌∷◌, ◌++◌, length, take, get_or, refl, sym, subst, append_assoc, append-nil, arith}
use Rattle.std.proofs.lemmas.List.{get_or-take, length-take-le}
use Rattle.cp_term.specs.declared.cell.Cell.{Cell}
use Rattle.cp_term.specs.declared.cell.Cell.TheVariants.{Var, Int, Atom, Func}
use Rattle.cp_term.specs.Numbering.{occurs, next_variable}
use Rattle.cp_term.specs.Substitution.{Binding, replace, apply}
use Rattle.cp_term.proofs.lemmas.Turns.{below_next_variable}
use Rattle.cp_heap.specs.declared.bound.Bound.{Bound}
use Rattle.cp_heap.specs.State.{State, bindings, term, AreBoundWithin, HaveVariablesBelow, instance_at}
use Rattle.cp_heap.specs.Fresh.{AreUncrossed}
use Rattle.cp_heap.proofs.TrailLaws.{binding, apply-push, replace-apart}
use Rattle.cp_heap.proofs.ShapeLaws.{next_variable-append, below-at}

pub not_below : (n v : ℕ) (cells : List Cell) → next_variable cells ≤ n → n ≤ v → occurs v cells ≡ false
not_below n v cells low high = go (occurs v cells) refl
  where
    go : (t : Bool) → occurs v cells ≡ t → t ≡ false
    go true e = let lt = below_next_variable v cells e in absurd (omega arith)
    go false e = refl

replace-below : (n : ℕ) (x : Binding) (cells : List Cell) → next_variable x.term ≤ n → next_variable cells ≤ n → next_variable (replace x cells) ≤ n
replace-below n x [] a b = omega arith
replace-below n x (Var v ∷ cells) a b =
    elim (nat_eq v x.var) as (λ t. next_variable (cond t x.term (Var v ∷ []) ++ replace x cells) ≤ n) [
      | true ↦ next_variable-append n x.term (replace x cells) a (replace-below n x cells a (omega arith))
      | false ↦ next_variable-append n (Var v ∷ []) (replace x cells) (omega arith) (replace-below n x cells a (omega arith))
    ]
replace-below n x (Int i ∷ cells) a b = replace-below n x cells a b
replace-below n x (Atom c ∷ cells) a b = replace-below n x cells a b
replace-below n x (Func f k ∷ cells) a b = replace-below n x cells a b

module _ (n : ℕ) (terms : List (List Cell)) where
  instance_below_from : (earlier later : List Bound) → ((cells : List Cell) → next_variable cells ≤ n → next_variable (apply (bindings terms earlier) cells) ≤ n) → AreUncrossed n terms later
      → (cells : List Cell) → next_variable cells ≤ n → next_variable (apply (bindings terms (earlier ++ later)) cells) ≤ n
  instance_below_from earlier [] ih ok cells low = subst (λ t. next_variable (apply (bindings terms t) cells) ≤ n) (sym (append-nil earlier)) (ih cells low)
  instance_below_from earlier (b ∷ later) ih ok cells low =
      subst (λ t. next_variable (apply (bindings terms t) cells) ≤ n) (append_assoc earlier (b ∷ []) later)
      (instance_below_from (earlier ++ b ∷ []) later more ok.1 cells low)
    where
      more : (cells : List Cell) → next_variable cells ≤ n → next_variable (apply (bindings terms (earlier ++ b ∷ [])) cells) ≤ n
      more cells low =
          subst (λ cs. next_variable cs ≤ n) (sym (apply-push terms earlier b cells))
          (elim ok.0 [
            | inl new ↦ subst (λ cs. next_variable cs ≤ n)
                (sym (replace-apart (binding terms earlier b) (apply (bindings terms earlier) cells) (not_below n b.variable (apply (bindings terms earlier) cells) (ih cells low) new))) (ih cells low)
            | inr old ↦ replace-below n (binding terms earlier b) (apply (bindings terms earlier) cells) (ih (get_or terms b.at []) old) (ih cells low)
          ])

  pub instance_below : (trail : List Bound) → AreUncrossed n terms trail → (cells : List Cell) → next_variable cells ≤ n → next_variable (apply (bindings terms trail) cells) ≤ n
  instance_below trail ok cells low = instance_below_from [] trail (λ cs l. l) ok cells low

  -- bindings from before the mark have not crossed
  pub uncrossed_before : (p : ℕ) (trail : List Bound) → p ≤ length terms → HaveVariablesBelow n (take p terms) → AreBoundWithin n p trail → AreUncrossed n terms trail
  uncrossed_before p [] le low ok = tt
  uncrossed_before p (b ∷ trail) le low ok =
      let place : b.at < p = ok.1 in
      let in_take : b.at < length (take p terms) = omega (arith, length-take-le p terms le) in
      let top : next_variable (get_or terms b.at []) ≤ n = subst (λ cs. next_variable cs ≤ n) (get_or-take p terms b.at [] place) (below-at n (take p terms) b.at low in_take) in
      (inr top, uncrossed_before p trail le low ok.2)

  pub uncrossed-append : (trail more : List Bound) → AreUncrossed n terms trail → AreUncrossed n terms more → AreUncrossed n terms (trail ++ more)
  uncrossed-append [] more a b = b
  uncrossed-append (x ∷ trail) more a b = (a.0, uncrossed-append trail more a.1 b)

-- a new variable does not occur in the instance of a term with old variables alone
pub new_is_apart : (n : ℕ) (h : State) (at v : ℕ) → AreUncrossed n h.terms h.trail → next_variable (term h at) ≤ n → n ≤ v → occurs v (instance_at h at) ≡ false
new_is_apart n h at v ok low new = not_below n v (instance_at h at) (instance_below n h.terms h.trail ok (term h at) low) new
