-- The variables seen so far are the keys of a set, in order.
use Rattle.std.proofs.Common.{◌≡◌, ℕ, suc, ◌+◌, Bool, true, false, cond, ◌||◌, nat_eq, List, [], ◌∷◌, ◌++◌, refl, sym, ◌∙◌, ap, arith}
use Rattle.std.specs.List.{list_any, position_or_len}
use Rattle.std.proofs.lemmas.Bool.{eq-eqb, eqb-true, ne_eqb, eqb-false}
use Rattle.std.proofs.lemmas.List.Recursion.{is_position_or_len}
use Rattle.cp_term.specs.declared.cell.Cell.TheVariants.{Var}
use Rattle.cp_term.specs.Numbering.{place, seen_after}

nat_eq-sym : (u v : ℕ) → nat_eq u v ≡ nat_eq v u
nat_eq-sym u v = go (nat_eq u v) refl
  where
    go : (t : Bool) → nat_eq u v ≡ t → t ≡ nat_eq v u
    go true e = sym (eq-eqb v u (sym (eqb-true u v e)))
    go false e = sym (ne_eqb v u (λ (q : v ≡ u). eqb-false u v e (sym q)))

pub place-is : (us : List ℕ) (v : ℕ) → position_or_len (nat_eq v) us ≡ place us v
place-is us v = sym (is_position_or_len (λ ks. place ks v) (nat_eq v) refl step us)
  where
    step : (u : ℕ) (ks : List ℕ) → place (u ∷ ks) v ≡ cond (nat_eq v u) 0 (1 + place ks v)
    step u ks = let more : suc (place ks v) ≡ 1 + place ks v = omega arith in (λ i. cond (nat_eq-sym u v i) 0 (more i))

pub seen-is : (us : List ℕ) (v : ℕ) → cond (list_any (nat_eq v) us) us (us ++ v ∷ []) ≡ seen_after us (Var v)
seen-is [] v = refl
seen-is (u ∷ us) v =
    ap (λ t. cond (t || list_any (nat_eq v) us) (u ∷ us) (u ∷ us ++ v ∷ [])) (nat_eq-sym v u)
    ∙ (elim (nat_eq u v) as (λ t. cond (t || list_any (nat_eq v) us) (u ∷ us) (u ∷ us ++ v ∷ []) ≡ cond t (u ∷ us) (u ∷ seen_after us (Var v))) [
      | true ↦ refl
      | false ↦ behind (list_any (nat_eq v) us) ∙ ap (λ ks. u ∷ ks) (seen-is us v)
    ]) where
      behind : (t : Bool) → cond t (u ∷ us) (u ∷ us ++ v ∷ []) ≡ u ∷ cond t us (us ++ v ∷ [])
      behind true = refl
      behind false = refl
