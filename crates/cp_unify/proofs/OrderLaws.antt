-- The order of terms that stand one behind another.
use Rattle.std.proofs.Common.{◌≡◌, ℕ, zero, suc, ◌+◌, Bool, true, false, cond, nat_eq, nat_lt, List, [], ◌∷◌, ◌++◌, refl, sym, ◌∙◌, ap, subst}
use Rattle.std.specs.declared.cmp.Ordering.{Ordering}
use Rattle.std.specs.declared.cmp.Ordering.TheVariants.{Less, Equal, Greater}
use Rattle.std.specs.Ordering.{nat_cmp, ordering_then, is_ne}
use Rattle.std.specs.Cmp.Lexicographic.{slice_cmp}
use Rattle.std.proofs.lemmas.Bool.{and_parts, false≢true, eqb-true}
use Rattle.cp_term.specs.declared.cell.Cell.{Cell}
use Rattle.cp_term.specs.declared.cell.Cell.TheVariants.{Var, Int, Atom, Func}
use Rattle.cp_term.specs.Preorder.{has_arity, arity_of, terms_after, is_terms}
use Rattle.cp_term.specs.Order.{cell_cmp, term_cmp}
use Rattle.cp_term.proofs.lemmas.PreorderLaws.{terms_after-arity}

-- the first that is not equal decides
pub first-Equal : (o r : Ordering) → ordering_then o r ≡ Equal → o ≡ Equal
first-Equal Less r e = cc
first-Equal Equal r e = refl
first-Equal Greater r e = cc

pub then-decided : (o r : Ordering) → (o ≡ Equal → ⊥) → ordering_then o r ≡ o
then-decided Less r ne = refl
then-decided Equal r ne = absurd (ne refl)
then-decided Greater r ne = refl

nat_cmp-Equal : (j k : ℕ) → nat_cmp j k ≡ Equal → j ≡ k
nat_cmp-Equal j k e =
    elim (nat_lt j k) as (λ t. cond t Less (cond (nat_eq j k) Equal Greater) ≡ Equal → j ≡ k) [
      | true ↦ λ h. cc
      | false ↦ λ h. go (nat_eq j k) refl h
    ] e
  where
    go : (t : Bool) → nat_eq j k ≡ t → cond t Equal Greater ≡ Equal → j ≡ k
    go true q h = eqb-true j k q
    go false q h = cc

-- cells that are equal in the order have as many arguments
pub equal_arity : (c d : Cell) → cell_cmp c d ≡ Equal → arity_of c ≡ arity_of d
equal_arity (Var u) (Var v) e = refl
equal_arity (Var u) (Int j) e = refl
equal_arity (Var u) (Atom b) e = refl
equal_arity (Var u) (Func g k) e = cc
equal_arity (Int i) (Var v) e = refl
equal_arity (Int i) (Int j) e = refl
equal_arity (Int i) (Atom b) e = refl
equal_arity (Int i) (Func g k) e = cc
equal_arity (Atom a) (Var v) e = refl
equal_arity (Atom a) (Int j) e = refl
equal_arity (Atom a) (Atom b) e = refl
equal_arity (Atom a) (Func g k) e = cc
equal_arity (Func f j) (Var v) e = cc
equal_arity (Func f j) (Int i) e = cc
equal_arity (Func f j) (Atom b) e = cc
equal_arity (Func f j) (Func g k) e = nat_cmp-Equal j k (first-Equal (nat_cmp j k) (slice_cmp nat_cmp f g) e)

-- as many terms on either side, and what stands behind them
pub cmp-append : (n : ℕ) (x y xs ys : List Cell) → is_terms n x ≡ true → is_terms n y ≡ true → term_cmp (x ++ xs) (y ++ ys) ≡ ordering_then (term_cmp x y) (term_cmp xs ys)
cmp-append zero [] [] xs ys a b = refl
cmp-append zero [] (d ∷ y) xs ys a b = absurd (false≢true b)
cmp-append zero (c ∷ x) y xs ys a b = absurd (false≢true a)
cmp-append (suc n) [] y xs ys a b = absurd (false≢true a)
cmp-append (suc n) (c ∷ x) [] xs ys a b = absurd (false≢true b)
cmp-append (suc n) (c ∷ x) (d ∷ y) xs ys a b = go (cell_cmp c d) refl (λ q. cmp-append (terms_after c n) x y xs ys (and_parts (has_arity c) (is_terms (terms_after c n) x) a).1 q)
  where
    go : (o : Ordering) → cell_cmp c d ≡ o → (is_terms (terms_after c n) y ≡ true → term_cmp (x ++ xs) (y ++ ys) ≡ ordering_then (term_cmp x y) (term_cmp xs ys))
        → ordering_then (cell_cmp c d) (term_cmp (x ++ xs) (y ++ ys)) ≡ ordering_then (ordering_then (cell_cmp c d) (term_cmp x y)) (term_cmp xs ys)
    go Less e rest = ap (λ o. ordering_then o (term_cmp (x ++ xs) (y ++ ys))) e ∙ sym (ap (λ o. ordering_then (ordering_then o (term_cmp x y)) (term_cmp xs ys)) e)
    go Greater e rest = ap (λ o. ordering_then o (term_cmp (x ++ xs) (y ++ ys))) e ∙ sym (ap (λ o. ordering_then (ordering_then o (term_cmp x y)) (term_cmp xs ys)) e)
    go Equal e rest =
        let same : terms_after d n ≡ terms_after c n = terms_after-arity d n ∙ ap (λ k. n + k) (sym (equal_arity c d e)) ∙ sym (terms_after-arity c n) in
        let q = subst (λ k. is_terms k y ≡ true) same (and_parts (has_arity d) (is_terms (terms_after d n) y) b).1 in
        ap (λ o. ordering_then o (term_cmp (x ++ xs) (y ++ ys))) e
        ∙ rest q
        ∙ sym (ap (λ o. ordering_then (ordering_then o (term_cmp x y)) (term_cmp xs ys)) e)

-- the test that two are not equal
pub is_ne-true : (o : Ordering) (b : Bool) → b ≡ is_ne o → b ≡ true → o ≡ Equal → ⊥
is_ne-true Less b e t q = cc
is_ne-true Equal b e t q = false≢true (sym e ∙ t)
is_ne-true Greater b e t q = cc

pub is_ne-false : (o : Ordering) (b : Bool) → b ≡ is_ne o → b ≡ false → o ≡ Equal
is_ne-false Less b e f = absurd (false≢true (sym f ∙ e))
is_ne-false Equal b e f = refl
is_ne-false Greater b e f = absurd (false≢true (sym f ∙ e))
