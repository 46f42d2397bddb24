-- Beginnings of one list, and a caller's own part of a longer one.
use Rattle.std.proofs.Common.{◌≡◌, ◌≢◌, ◌⊎◌, ℕ, List, [], ◌∷◌, ◌++◌, refl, sym, ap, ◌∙◌, inl, inr, ⊎_elim, append_assoc}
use Rattle.cp_list.specs.Lists.{IsPrefix, own}
use Rattle.cp_turn.specs.Lists.{AreBy}
use Rattle.cp_turn.specs.Passes.{PassView, ExtendsSeen}
use Rattle.cp_turn.proofs.Own.{own_append, own_same, own_longer}

module _ {E : Type 0} where
  -- two ways to cut one list
  cuts : (xs ys more rest : List E) → xs ++ more ≡ ys ++ rest → IsPrefix xs ys ⊎ IsPrefix ys xs
  cuts [] ys more rest same = inl (ys, refl)
  cuts (x ∷ xs) [] more rest same = inr (x ∷ xs, refl)
  cuts (x ∷ xs) (y ∷ ys) more rest same =
      let first : x ≡ y = cc in
      let others : xs ++ more ≡ ys ++ rest = cc in
      ⊎_elim
      (λ (h : IsPrefix xs ys). inl (h.0, λ i. sym first i ∷ h.1 i))
      (λ (h : IsPrefix ys xs). inr (h.0, λ i. first i ∷ h.1 i))
      (cuts xs ys more rest others)

  pub beginnings_compare : (xs ys list : List E) → IsPrefix xs list → IsPrefix ys list → IsPrefix xs ys ⊎ IsPrefix ys xs
  beginnings_compare xs ys list a b = cuts xs ys a.0 b.0 (sym a.1 ∙ b.1)

  pub own_grows : (by : E → ℕ) (n : ℕ) (list more : List E) → AreBy by n more → own by n (list ++ more) ≡ own by n list ++ more
  own_grows by n list more all = own_append by n list more ∙ ap (λ l. own by n list ++ l) (own_same by n more all)

  pub own_others : (by : E → ℕ) (n k : ℕ) (list more : List E) → n ≢ k → AreBy by n more → own by k (list ++ more) ≡ own by k list
  own_others by n k list more ne all = own_longer by k n ne list more all

  module _ {B : Type 0} (by : E → ℕ) (earlier list : List E) (p : PassView E B) (h : ExtendsSeen by list p) where
    pub whole_seen : IsPrefix (earlier ++ p.seen) (earlier ++ list)
    whole_seen = (h.0.0, ap (λ l. earlier ++ l) h.0.1 ∙ sym (append_assoc earlier p.seen h.0.0))

    pub whole_mine : own by p.number (earlier ++ list) ≡ own by p.number earlier ++ p.mine
    whole_mine = own_append by p.number earlier list ∙ ap (λ l. own by p.number earlier ++ l) h.1
