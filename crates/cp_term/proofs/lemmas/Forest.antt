-- The forest of classes: a place is brought nearer to its root, and two classes become one.
use Rattle.std.proofs.Common.{◌≡◌, ℕ, ◌+◌, ◌<◌, ◌≤◌, inl, inr, cond, nat_eq, length, get_or, set, sum, sym, ◌∙◌, ap, List, arith}
use Rattle.std.proofs.lemmas.Bool.{cases_eq, eq-eqb, ne_eqb, cond-true, cond-false}
use Rattle.std.proofs.lemmas.List.{length-set, get_or-set_same, get_or-set_other}
use Rattle.std.proofs.lemmas.List.Sums.{sum_by-set}
use Rattle.cp_term.specs.Classes.{Falls, IsForest}

pub sum-set-le : (xs : List ℕ) (i y : ℕ) → i < length xs → y ≤ get_or xs i 0 → sum (set xs i y) ≤ sum xs
sum-set-le xs i y h le = let e = sum_by-set (λ x. x) xs i y 0 h in omega arith

pub sum-set-lt : (xs : List ℕ) (i y : ℕ) → i < length xs → y < get_or xs i 0 → sum (set xs i y) + 1 ≤ sum xs
sum-set-lt xs i y h lt = let e = sum_by-set (λ x. x) xs i y 0 h in omega arith

pub Falls-set : (parents : List ℕ) (i y : ℕ) → i < length parents → y ≤ i → Falls parents → Falls (set parents i y)
Falls-set parents i y below le falls p h =
    let len = length-set parents i y in
    elim (cases_eq p i) [
      | inl e ↦ let same : get_or (set parents i y) p 0 ≡ y = ap (λ j. get_or (set parents i y) j 0) e ∙ get_or-set_same parents i y 0 below in omega arith
      | inr ne ↦ let same : get_or (set parents i y) p 0 ≡ get_or parents p 0 = get_or-set_other parents i p y 0 ne in let old = falls p (omega arith) in omega arith
    ]

-- a place that is no root gets another parent of its class
module _ (parents : List ℕ) (root : ℕ → ℕ) (f : IsForest parents root) (i y : ℕ) (below : i < length parents) (less : y < i) (same_class : root y ≡ root i) where
  pub IsForest-nearer : IsForest (set parents i y) root
  IsForest-nearer =
      let len = length-set parents i y in
      record {
        above = λ p h. elim (cases_eq p i) [
          | inl e ↦ ap root (ap (λ j. get_or (set parents i y) j 0) e ∙ get_or-set_same parents i y 0 below) ∙ same_class ∙ ap root (sym e)
          | inr ne ↦ ap root (get_or-set_other parents i p y 0 ne) ∙ f.above p (omega arith)
        ];
        top = λ p h is. elim (cases_eq p i) [
          | inl e ↦
              let at : get_or (set parents i y) p 0 ≡ y = ap (λ j. get_or (set parents i y) j 0) e ∙ get_or-set_same parents i y 0 below in
              absurd (omega arith)
          | inr ne ↦ f.top p (omega arith) (sym (get_or-set_other parents i p y 0 ne) ∙ is)
        ];
        below = λ p h. f.below p (omega arith);
        once = λ p h. f.once p (omega arith);
      }

-- the roots after the class of one becomes part of that of the other, whose root comes first
abbrev pub root_after : (ℕ → ℕ) → ℕ → ℕ → ℕ → ℕ
root_after root least most p = cond (nat_eq (root p) most) least (root p)

module _ (parents : List ℕ) (root : ℕ → ℕ) (f : IsForest parents root) (least most : ℕ) (less : least < most) (below : most < length parents)
    (least_is : root least ≡ least) (most_is : root most ≡ most) where
  pub root_after-most : (p : ℕ) → root p ≡ most → root_after root least most p ≡ least
  root_after-most p e = cond-true (nat_eq (root p) most) least (root p) (eq-eqb (root p) most e)

  pub root_after-other : (p : ℕ) → (root p ≡ most → ⊥) → root_after root least most p ≡ root p
  root_after-other p ne = cond-false (nat_eq (root p) most) least (root p) (ne_eqb (root p) most ne)

  pub root_after-least : root_after root least most least ≡ least
  root_after-least = root_after-other least (λ (e : root least ≡ most). omega arith) ∙ least_is

  pub IsForest-join : IsForest (set parents most least) (root_after root least most)
  IsForest-join =
      let len = length-set parents most least in
      record {
        above = λ p h. elim (cases_eq p most) [
          | inl e ↦
              ap (root_after root least most) (ap (λ j. get_or (set parents most least) j 0) e ∙ get_or-set_same parents most least 0 below)
              ∙ root_after-least ∙ sym (root_after-most p (ap root e ∙ most_is))
          | inr ne ↦
              ap (root_after root least most) (get_or-set_other parents most p least 0 ne)
              ∙ ap (λ r. cond (nat_eq r most) least r) (f.above p (omega arith))
        ];
        top = λ p h is. elim (cases_eq p most) [
          | inl e ↦
              let at : get_or (set parents most least) p 0 ≡ least = ap (λ j. get_or (set parents most least) j 0) e ∙ get_or-set_same parents most least 0 below in
              absurd (omega arith)
          | inr ne ↦
              let own : root p ≡ p = f.top p (omega arith) (sym (get_or-set_other parents most p least 0 ne) ∙ is) in
              root_after-other p (λ q. ne (sym own ∙ q)) ∙ own
        ];
        below = λ p h. elim (cases_eq (root p) most) [
          | inl e ↦ let at = root_after-most p e in let old = f.below p (omega arith) in omega arith
          | inr ne ↦ let at = root_after-other p ne in let old = f.below p (omega arith) in omega arith
        ];
        once = λ p h. elim (cases_eq (root p) most) [
          | inl e ↦ ap (root_after root least most) (root_after-most p e) ∙ root_after-least ∙ sym (root_after-most p e)
          | inr ne ↦
              let old : root (root p) ≡ root p = f.once p (omega arith) in
              ap (root_after root least most) (root_after-other p ne)
              ∙ root_after-other (root p) (λ q. ne (sym old ∙ q)) ∙ old ∙ sym (root_after-other p ne)
        ];
      }
