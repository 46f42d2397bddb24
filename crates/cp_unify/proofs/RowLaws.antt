-- Comparing terms that stand side by side.
use Rattle.std.proofs.Common.{◌≡◌, ℕ, zero, suc, ◌+◌, ◌-◌, ◌<◌, ◌≤◌, true, List, ◌∷◌, ◌++◌, length, refl, sym, ◌∙◌, ap, subst, append_assoc, append-nil, arith, length-append}
use Rattle.std.specs.declared.cmp.Ordering.{Ordering}
use Rattle.std.specs.declared.cmp.Ordering.TheVariants.{Less, Equal, Greater}
use Rattle.std.specs.Ordering.{ordering_then}
use Rattle.cp_term.specs.declared.cell.Cell.{Cell}
use Rattle.cp_term.specs.Preorder.{is_terms}
use Rattle.cp_term.specs.Order.{cell_cmp, term_cmp}
use Rattle.cp_heap.specs.declared.word.Word.{Word}
use Rattle.cp_heap.specs.declared.word.Word.TheVariants.{Variable, Integer, Atom, Compound}
use Rattle.cp_heap.specs.State.{State, term, IsEnd, instance_at}
use Rattle.cp_heap.specs.Layout.{word_term, IsPlaced}
use Rattle.cp_heap.specs.Walk.{waiting, places_from, first_cell, argument_places}
use Rattle.cp_heap.proofs.WalkLaws.{end_instance}
use Rattle.cp_unify.specs.Words.{first_of, count_of}
use Rattle.cp_unify.specs.Rows.{row}
use Rattle.cp_unify.proofs.StackLaws.{placed_within, count_is}
use Rattle.cp_unify.proofs.OrderLaws.{then-decided, equal_arity, cmp-append}

-- the first of several terms, and the others
row_front : (h : State) (first k : ℕ) → row h first (suc k) ≡ instance_at h first ++ row h (first + 1) k
row_front h first zero =
    let here : first + 0 ≡ first = omega arith in
    ap (instance_at h) here ∙ sym (append-nil (instance_at h first))
row_front h first (suc k) =
    let here : first + suc k ≡ first + 1 + k = omega arith in
    (λ i. row_front h first k i ++ instance_at h (here i))
    ∙ append_assoc (instance_at h first) (row h (first + 1) k) (instance_at h (first + 1 + k))

row_step : (h : State) (first count : ℕ) → 0 < count → row h first count ≡ instance_at h first ++ row h (first + 1) (count - 1)
row_step h first zero some = absurd (omega arith)
row_step h first (suc k) some =
    let e : k ≡ suc k - 1 = omega arith in
    row_front h first k ∙ ap (λ n. instance_at h first ++ row h (first + 1) n) e

places_are : (w : Word) → argument_places w ≡ places_from (first_of w) (count_of w)
places_are (Variable v) = refl
places_are (Integer i) = refl
places_are (Atom a) = refl
places_are (Compound k f first) = refl

-- the first term of a row begins with this word
pub record IsRow (h : State) (left count : ℕ) (w : Word) : Type 0 where
  pub shown : row h left count ≡ (first_cell h.names w ∷ row h (first_of w) (count_of w)) ++ row h (left + 1) (count - 1)
  pub one : is_terms 1 (first_cell h.names w ∷ row h (first_of w) (count_of w)) ≡ true
  pub within : first_of w + count_of w ≤ length h.terms

pub row_is : (h : State) (n m at end left count : ℕ) (w : Word) → 0 < count → instance_at h end ≡ instance_at h left → is_terms 1 (instance_at h end) ≡ true
    → term h end ≡ word_term h.names h.terms w → IsEnd h end → IsPlaced n m at w → at ≤ length h.terms → IsRow h left count w
row_is h n m at end left count w some same one e is_end placed le =
    let shown : instance_at h end ≡ first_cell h.names w ∷ row h (first_of w) (count_of w) =
    end_instance h n m at end w e is_end placed le ∙ ap (λ ats. first_cell h.names w ∷ waiting h ats) (places_are w) in
    record {
      shown = row_step h left count some ∙ ap (λ cs. cs ++ row h (left + 1) (count - 1)) (sym same ∙ shown);
      one = subst (λ t. is_terms 1 t ≡ true) shown one;
      within = let p = placed_within n m at w placed in omega arith;
    }

pub row_len : (h : State) (left count : ℕ) (w : Word) → IsRow h left count w → length (row h left count) ≡ 1 + length (row h (first_of w) (count_of w)) + length (row h (left + 1) (count - 1))
row_len h left count w r =
    let n = ap length r.shown in
    omega (arith, length-append (first_cell h.names w ∷ row h (first_of w) (count_of w)) (row h (left + 1) (count - 1)))

pub equal_count : (names : List (List ℕ)) (w x : Word) → cell_cmp (first_cell names w) (first_cell names x) ≡ Equal → count_of w ≡ count_of x
equal_count names w x e = sym (count_is names w) ∙ equal_arity (first_cell names w) (first_cell names x) e ∙ count_is names x

module _ (h : State) (left right count : ℕ) (w x : Word) (l : IsRow h left count w) (r : IsRow h right count x) where
  c : Cell
  c = first_cell h.names w

  d : Cell
  d = first_cell h.names x

  both : term_cmp (row h left count) (row h right count)
      ≡ term_cmp ((first_cell h.names w ∷ row h (first_of w) (count_of w)) ++ row h (left + 1) (count - 1)) ((first_cell h.names x ∷ row h (first_of x) (count_of x)) ++ row h (right + 1) (count - 1))
  both = λ i. term_cmp (l.shown i) (r.shown i)

  -- the first cells decide
  pub first_decides : (o : Ordering) → o ≡ cell_cmp (first_cell h.names w) (first_cell h.names x) → (o ≡ Equal → ⊥) → o ≡ term_cmp (row h left count) (row h right count)
  first_decides o e ne =
      e
      ∙ sym (then-decided (cell_cmp (first_cell h.names w) (first_cell h.names x)) (term_cmp (row h (first_of w) (count_of w) ++ row h (left + 1) (count - 1)) (row h (first_of x) (count_of x) ++ row h (right + 1) (count - 1))) (λ q. ne (e ∙ q)))
      ∙ sym both

  -- the first terms, and those behind
  apart : cell_cmp (first_cell h.names w) (first_cell h.names x) ≡ Equal
      → term_cmp (row h left count) (row h right count) ≡ ordering_then (term_cmp (row h (first_of w) (count_of w)) (row h (first_of x) (count_of x))) (term_cmp (row h (left + 1) (count - 1)) (row h (right + 1) (count - 1)))
  apart e =
      both
      ∙ cmp-append 1 (first_cell h.names w ∷ row h (first_of w) (count_of w)) (first_cell h.names x ∷ row h (first_of x) (count_of x)) (row h (left + 1) (count - 1)) (row h (right + 1) (count - 1)) l.one r.one
      ∙ ap (λ o. ordering_then (ordering_then o (term_cmp (row h (first_of w) (count_of w)) (row h (first_of x) (count_of x)))) (term_cmp (row h (left + 1) (count - 1)) (row h (right + 1) (count - 1)))) e

  arguments_as_many : cell_cmp (first_cell h.names w) (first_cell h.names x) ≡ Equal → term_cmp (row h (first_of w) (count_of w)) (row h (first_of x) (count_of x)) ≡ term_cmp (row h (first_of w) (count_of w)) (row h (first_of x) (count_of w))
  arguments_as_many e = ap (λ k. term_cmp (row h (first_of w) (count_of w)) (row h (first_of x) k)) (sym (equal_count h.names w x e))

  -- the arguments of the first terms decide
  pub arguments_decide : (o : Ordering) → cell_cmp (first_cell h.names w) (first_cell h.names x) ≡ Equal → o ≡ term_cmp (row h (first_of w) (count_of w)) (row h (first_of x) (count_of w)) → (o ≡ Equal → ⊥) → o ≡ term_cmp (row h left count) (row h right count)
  arguments_decide o e is ne =
      let inner : term_cmp (row h (first_of w) (count_of w)) (row h (first_of x) (count_of x)) ≡ o = arguments_as_many e ∙ sym is in
      sym (then-decided o (term_cmp (row h (left + 1) (count - 1)) (row h (right + 1) (count - 1))) ne)
      ∙ ap (λ q. ordering_then q (term_cmp (row h (left + 1) (count - 1)) (row h (right + 1) (count - 1)))) (sym inner)
      ∙ sym (apart e)

  -- the others decide
  pub others_decide : cell_cmp (first_cell h.names w) (first_cell h.names x) ≡ Equal → Equal ≡ term_cmp (row h (first_of w) (count_of w)) (row h (first_of x) (count_of w))
      → term_cmp (row h (left + 1) (count - 1)) (row h (right + 1) (count - 1)) ≡ term_cmp (row h left count) (row h right count)
  others_decide e is =
      let inner : term_cmp (row h (first_of w) (count_of w)) (row h (first_of x) (count_of x)) ≡ Equal = arguments_as_many e ∙ sym is in
      ap (λ q. ordering_then q (term_cmp (row h (left + 1) (count - 1)) (row h (right + 1) (count - 1)))) (sym inner) ∙ sym (apart e)

  -- there are no others
  pub last_decides : cell_cmp (first_cell h.names w) (first_cell h.names x) ≡ Equal → count ≡ 1 → term_cmp (row h (first_of w) (count_of w)) (row h (first_of x) (count_of w)) ≡ term_cmp (row h left count) (row h right count)
  last_decides e is_one =
      let none : count - 1 ≡ 0 = omega arith in
      sym (arguments_as_many e) ∙ as_it_is (term_cmp (row h (first_of w) (count_of w)) (row h (first_of x) (count_of x)))
      ∙ ap (λ k. ordering_then (term_cmp (row h (first_of w) (count_of w)) (row h (first_of x) (count_of x))) (term_cmp (row h (left + 1) k) (row h (right + 1) k))) (sym none)
      ∙ sym (apart e)
    where
      as_it_is : (o : Ordering) → o ≡ ordering_then o Equal
      as_it_is Less = refl
      as_it_is Equal = refl
      as_it_is Greater = refl

-- a term alone
pub row_alone : (h : State) (at : ℕ) → row h at 1 ≡ instance_at h at
row_alone h at = let here : at + 0 ≡ at = omega arith in ap (instance_at h) here
