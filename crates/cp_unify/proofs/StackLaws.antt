-- Pairs of terms on a stack.
use Rattle.std.proofs.Common.{◌≡◌, ℕ, zero, suc, ◌+◌, ◌-◌, ◌<◌, ◌≤◌, Bool, true, cond, List, [], ◌∷◌, ◌++◌, length, take, drop, get_or, refl, sym, ◌∙◌, ap, subst, append_assoc, append-nil, arith, length-drop}
use Rattle.std.specs.Prelude.{Some, None}
use Rattle.std.specs.List.{flat_map}
use Rattle.std.proofs.lemmas.List.{get_or-drop}
use Rattle.std.proofs.lemmas.List.Concat.{flat_map-append}
use Rattle.std.proofs.Math.Seq.{take-suc}
use Rattle.cp_term.specs.declared.cell.Cell.{Cell}
use Rattle.cp_term.specs.CellEq.{cell_eq, cell_eq-true}
use Rattle.cp_term.specs.Preorder.{arity_of}
use Rattle.cp_term.specs.Substitution.{Substitution, apply}
use Rattle.cp_term.specs.Unification.{disagreement, unify}
use Rattle.cp_term.proofs.lemmas.SubstitutionLaws.{apply-append, apply-nil}
use Rattle.cp_heap.specs.declared.word.Word.{Word}
use Rattle.cp_heap.specs.declared.word.Word.TheVariants.{Variable, Integer, Atom, Compound}
use Rattle.cp_heap.specs.State.{State, term, substitution, instance_at, Extends}
use Rattle.cp_heap.proofs.BuildLaws.{Extends-refl, Extends-trans}
use Rattle.cp_heap.specs.Layout.{word_term, IsPlaced}
use Rattle.cp_heap.specs.Walk.{first_cell}
use Rattle.cp_heap.proofs.UnifyLaws.{unify-instances}
use Rattle.cp_unify.specs.declared.pair.Pair.{Pair}
use Rattle.cp_unify.specs.Words.{first_of, count_of, argument_cells, IsNamed}
use Rattle.cp_unify.specs.Pairs.{lefts, rights, ArePairs, pairs_from}
use Rattle.cp_unify.specs.declared.horizon.Horizon.{Horizon}
use Rattle.cp_unify.specs.Steps.{Unifies, IsHorizon, IsUnifying}
use Rattle.cp_unify.proofs.PairLaws.{unify-same, unify-prefix, unify-first}

-- a stack in two parts
lefts-append : (h : State) (xs ys : List Pair) → lefts h (xs ++ ys) ≡ lefts h ys ++ lefts h xs
lefts-append h [] ys = sym (append-nil (lefts h ys))
lefts-append h (p ∷ xs) ys = ap (λ cs. cs ++ term h p.left.at) (lefts-append h xs ys) ∙ append_assoc (lefts h ys) (lefts h xs) (term h p.left.at)

rights-append : (h : State) (xs ys : List Pair) → rights h (xs ++ ys) ≡ rights h ys ++ rights h xs
rights-append h [] ys = sym (append-nil (rights h ys))
rights-append h (p ∷ xs) ys = ap (λ cs. cs ++ term h p.right.at) (rights-append h xs ys) ∙ append_assoc (rights h ys) (rights h xs) (term h p.right.at)

pairs-append : (n : ℕ) (xs ys : List Pair) → ArePairs n xs → ArePairs n ys → ArePairs n (xs ++ ys)
pairs-append n [] ys a b = b
pairs-append n (p ∷ xs) ys a b = (a.0, a.1, pairs-append n xs ys a.2 b)

pairs-parts : (n : ℕ) (xs ys : List Pair) → ArePairs n (xs ++ ys) → ArePairs n xs × ArePairs n ys
pairs-parts n [] ys ok = (tt, ok)
pairs-parts n (p ∷ xs) ys ok = let rest = pairs-parts n xs ys ok.2 in ((ok.0, ok.1, rest.0), rest.1)

-- the pair at the top
pub record IsTop (h : State) (pairs under : List Pair) (p : Pair) : Type 0 where
  pub left : p.left.at < length h.terms
  pub right : p.right.at < length h.terms
  pub rest : ArePairs (length h.terms) under
  pub on_left : lefts h pairs ≡ term h p.left.at ++ lefts h under
  pub on_right : rights h pairs ≡ term h p.right.at ++ rights h under

pub top_is : (h : State) (pairs rest : List Pair) (p : Pair) → pairs ≡ rest ++ p ∷ [] → ArePairs (length h.terms) pairs → IsTop h pairs rest p
top_is h pairs rest p top ok =
    let both = pairs-parts (length h.terms) rest (p ∷ []) (subst (ArePairs (length h.terms)) top ok) in
    record {
      left = both.1.0;
      right = both.1.1;
      rest = both.0;
      on_left = ap (lefts h) top ∙ lefts-append h rest (p ∷ []);
      on_right = ap (rights h) top ∙ rights-append h rest (p ∷ []);
    }

-- terms side by side
one_more : (k first : ℕ) (ts : List (List Cell)) → first + k < length ts → flat_map (λ u. u) (take (suc k) (drop first ts)) ≡ flat_map (λ u. u) (take k (drop first ts)) ++ get_or ts (first + k) []
one_more k first ts lt =
    let us = take k (drop first ts) in
    let t = get_or ts (first + k) [] in
    let one : take (suc k) (drop first ts) ≡ us ++ t ∷ [] =
    take-suc (drop first ts) k [] (simp length-drop (omega arith)) ∙ ap (λ u. us ++ u ∷ []) (get_or-drop first ts k []) in
    ap (flat_map (λ u. u)) one ∙ flat_map-append (λ u. u) us (t ∷ []) ∙ ap (λ cs. flat_map (λ u. u) us ++ cs) (append-nil t)

lefts-from : (h : State) (left right k : ℕ) → left + k ≤ length h.terms → lefts h (pairs_from left right k) ≡ flat_map (λ u. u) (take k (drop left h.terms))
lefts-from h left right zero le = refl
lefts-from h left right (suc k) le = ap (λ cs. cs ++ term h (left + k)) (lefts-from h left right k (omega arith)) ∙ sym (one_more k left h.terms (omega arith))

rights-from : (h : State) (left right k : ℕ) → right + k ≤ length h.terms → rights h (pairs_from left right k) ≡ flat_map (λ u. u) (take k (drop right h.terms))
rights-from h left right zero le = refl
rights-from h left right (suc k) le = ap (λ cs. cs ++ term h (right + k)) (rights-from h left right k (omega arith)) ∙ sym (one_more k right h.terms (omega arith))

pairs_from-ok : (n left right k : ℕ) → left + k ≤ n → right + k ≤ n → ArePairs n (pairs_from left right k)
pairs_from-ok n left right zero a b = tt
pairs_from-ok n left right (suc k) a b = (omega arith, omega arith, pairs_from-ok n left right k (omega arith) (omega arith))

pub pairs_step : (left right rest : ℕ) → 0 < rest
    → pairs_from left right rest ≡ (record { left = record { at = left + (rest - 1) }; right = record { at = right + (rest - 1) } }) ∷ pairs_from left right (rest - 1)
pairs_step left right zero some = absurd (omega arith)
pairs_step left right (suc k) some =
    let e : k ≡ suc k - 1 = omega arith in
    ap (λ n. (record { left = record { at = left + n }; right = record { at = right + n } }) ∷ pairs_from left right n) e

-- words
word_first : (names : List (List ℕ)) (terms : List (List Cell)) (w : Word) → word_term names terms w ≡ first_cell names w ∷ argument_cells terms w
word_first names terms (Variable v) = refl
word_first names terms (Integer i) = refl
word_first names terms (Atom a) = refl
word_first names terms (Compound k f first) = refl

pub placed_within : (n m at : ℕ) (w : Word) → IsPlaced n m at w → first_of w + count_of w ≤ at
placed_within n m at (Variable v) placed = omega arith
placed_within n m at (Integer i) placed = omega arith
placed_within n m at (Atom a) placed = omega arith
placed_within n m at (Compound k f first) placed = placed.3

pub placed_named : (n m at : ℕ) (w : Word) → IsPlaced n m at w → IsNamed n w
placed_named n m at (Variable v) placed = tt
placed_named n m at (Integer i) placed = tt
placed_named n m at (Atom a) placed = placed
placed_named n m at (Compound k f first) placed = placed.2

pub count_is : (names : List (List ℕ)) (w : Word) → arity_of (first_cell names w) ≡ count_of w
count_is names (Variable v) = refl
count_is names (Integer i) = refl
count_is names (Atom a) = refl
count_is names (Compound k f first) = refl

pub same_count : (names : List (List ℕ)) (w x : Word) → cell_eq (first_cell names w) (first_cell names x) ≡ true → count_of w ≡ count_of x
same_count names w x e = sym (count_is names w) ∙ ap arity_of (cell_eq-true (first_cell names w) (first_cell names x) e) ∙ count_is names x

-- the arguments of two terms whose first cells are the same
module _ (h : State) (w x : Word) (pairs new : List Pair) (one : cell_eq (first_cell h.names w) (first_cell h.names x) ≡ true)
    (left_within : first_of w + count_of w ≤ length h.terms) (right_within : first_of x + count_of x ≤ length h.terms) (pushed : new ≡ pairs ++ pairs_from (first_of w) (first_of x) (count_of w)) where
  right_fits : first_of x + count_of w ≤ length h.terms
  right_fits = let e = same_count h.names w x one in omega arith

  new_lefts : lefts h new ≡ argument_cells h.terms w ++ lefts h pairs
  new_lefts =
      ap (lefts h) pushed ∙ lefts-append h pairs (pairs_from (first_of w) (first_of x) (count_of w))
      ∙ ap (λ cs. cs ++ lefts h pairs) (lefts-from h (first_of w) (first_of x) (count_of w) left_within)

  new_rights : rights h new ≡ argument_cells h.terms x ++ rights h pairs
  new_rights =
      ap (rights h) pushed ∙ rights-append h pairs (pairs_from (first_of w) (first_of x) (count_of w))
      ∙ ap (λ cs. cs ++ rights h pairs) (rights-from h (first_of w) (first_of x) (count_of w) right_fits)
      ∙ ap (λ k. flat_map (λ u. u) (take k (drop (first_of x) h.terms)) ++ rights h pairs) (same_count h.names w x one)

  pub new_pairs : ArePairs (length h.terms) pairs → ArePairs (length h.terms) new
  new_pairs ok =
      subst (ArePairs (length h.terms)) (sym pushed)
      (pairs-append (length h.terms) pairs (pairs_from (first_of w) (first_of x) (count_of w)) ok (pairs_from-ok (length h.terms) (first_of w) (first_of x) (count_of w) left_within right_fits))

  pub pair_goes_on : (pl pr left right : ℕ) → instance_at h left ≡ instance_at h pl → instance_at h right ≡ instance_at h pr → term h left ≡ word_term h.names h.terms w → term h right ≡ word_term h.names h.terms x
      → unify (substitution h) (term h pl ++ lefts h pairs) (term h pr ++ rights h pairs) ≡ unify (substitution h) (lefts h new) (rights h new)
  pair_goes_on pl pr left right e f u v =
      unify-first (substitution h) (term h pl) (term h pr) (lefts h pairs) (rights h pairs) (argument_cells h.terms w) (argument_cells h.terms x) (first_cell h.names w) (first_cell h.names x)
      (sym e ∙ ap (apply (substitution h)) (u ∙ word_first h.names h.terms w)) (sym f ∙ ap (apply (substitution h)) (v ∙ word_first h.names h.terms x))
      (cell_eq-true (first_cell h.names w) (first_cell h.names x) one)
      ∙ (λ i. unify (substitution h) (sym new_lefts i) (sym new_rights i))

-- the pairs on the stack stay as bindings are made
lefts-stay : (h new : State) (pairs : List Pair) → h.terms ≡ new.terms → lefts h pairs ≡ lefts new pairs
lefts-stay h new [] e = refl
lefts-stay h new (p ∷ pairs) e = λ i. lefts-stay h new pairs e i ++ get_or (e i) p.left.at []

rights-stay : (h new : State) (pairs : List Pair) → h.terms ≡ new.terms → rights h pairs ≡ rights new pairs
rights-stay h new [] e = refl
rights-stay h new (p ∷ pairs) e = λ i. rights-stay h new pairs e i ++ get_or (e i) p.right.at []

pub pairs-stay : (h new : State) (pairs : List Pair) → new ≡ record h { trail = new.trail } → ArePairs (length h.terms) pairs → ArePairs (length new.terms) pairs
pairs-stay h new pairs kept ok = subst (λ ts. ArePairs (length ts) pairs) (sym (ap (λ t. t.terms) kept)) ok

pub apart_goes_on : (h new : State) (pl pr left right : ℕ) (goes_on : Bool) (pairs : List Pair) → new ≡ record h { trail = new.trail } → instance_at h left ≡ instance_at h pl → instance_at h right ≡ instance_at h pr → Unifies h new left right goes_on
    → unify (substitution h) (term h pl ++ lefts h pairs) (term h pr ++ rights h pairs) ≡ cond goes_on (unify (substitution new) (lefts new pairs) (rights new pairs)) None
apart_goes_on h new pl pr left right goes_on pairs kept e f unifies =
    let terms : h.terms ≡ new.terms = sym (ap (λ t. t.terms) kept) in
    let s = substitution h in
    unify-instances (term h pl ++ lefts h pairs) (term h left ++ lefts h pairs) (term h pr ++ rights h pairs) (term h right ++ rights h pairs) s
    (apply-append s (term h pl) (lefts h pairs) ∙ ap (λ cs. cs ++ apply s (lefts h pairs)) (sym e) ∙ sym (apply-append s (term h left) (lefts h pairs)))
    (apply-append s (term h pr) (rights h pairs) ∙ ap (λ cs. cs ++ apply s (rights h pairs)) (sym f) ∙ sym (apply-append s (term h right) (rights h pairs)))
    ∙ unifies (lefts h pairs) (rights h pairs)
    ∙ (λ i. cond goes_on (unify (substitution new) (lefts-stay h new pairs terms i) (rights-stay h new pairs terms i)) None)

-- two terms at one place
pub place_goes_on : (h : State) (pl pr left right : ℕ) (pairs : List Pair) → instance_at h left ≡ instance_at h pl → instance_at h right ≡ instance_at h pr → left ≡ right
    → unify (substitution h) (term h pl ++ lefts h pairs) (term h pr ++ rights h pairs) ≡ unify (substitution h) (lefts h pairs) (rights h pairs)
place_goes_on h pl pr left right pairs e f same = unify-prefix (term h pl) (term h pr) (lefts h pairs) (rights h pairs) (substitution h) (sym e ∙ ap (instance_at h) same ∙ f)

-- nothing is left
pub unify-nil : (s : Substitution) → unify s [] [] ≡ Some s
unify-nil s = unify-same s [] [] ((λ i. disagreement (apply-nil s i) (apply-nil s i)))

pub unify-end : (h : State) (pairs : List Pair) → pairs ≡ [] → unify (substitution h) (lefts h pairs) (rights h pairs) ≡ Some (substitution h)
unify-end h pairs empty = (λ i. unify (substitution h) (lefts h (empty i)) (rights h (empty i))) ∙ unify-nil (substitution h)

pub unify-start : (h : State) (pairs : List Pair) (p : Pair) → pairs ≡ p ∷ [] → unify (substitution h) (lefts h pairs) (rights h pairs) ≡ unify (substitution h) (term h p.left.at) (term h p.right.at)
unify-start h pairs p one = λ i. unify (substitution h) (lefts h (one i)) (rights h (one i))

-- the loop begins
pub unifying_start : (h : State) (a b : ℕ) (z : Horizon) (pairs : List Pair) → a < length h.terms → b < length h.terms → IsHorizon z h → pairs ≡ (record { left = record { at = a }; right = record { at = b } }) ∷ [] → IsUnifying h h a b z pairs
unifying_start h a b z pairs x y ok one = record {
  kept = refl;
  extends = Extends-refl h;
  pairs_live = subst (ArePairs (length h.terms)) (sym one) (x, y, tt);
  horizon = ok;
  unifies = unify-start h pairs (record { left = record { at = a }; right = record { at = b } }) one;
}

-- and goes on
pub unifying_next : (old now new : State) (a b : ℕ) (z z2 : Horizon) (pairs rest after : List Pair) (p : Pair) → IsUnifying old now a b z pairs → pairs ≡ rest ++ p ∷ []
    → unify (substitution now) (term now p.left.at ++ lefts now rest) (term now p.right.at ++ rights now rest) ≡ unify (substitution new) (lefts new after) (rights new after)
    → ArePairs (length new.terms) after → IsHorizon z2 new → new ≡ record now { trail = new.trail } → Extends now new → IsUnifying old new a b z2 after
unifying_next old now new a b z z2 pairs rest after p ok top goes_on live horizon kept grown =
    let is_top = top_is now pairs rest p top ok.pairs_live in
    record {
      kept = kept ∙ (λ i. record { terms = ap (λ t. t.terms) ok.kept i; trail = new.trail; variables = ap (λ t. t.variables) ok.kept i; names = ap (λ t. t.names) ok.kept i });
      extends = Extends-trans old now new ok.extends grown;
      pairs_live = live;
      horizon = horizon;
      unifies = sym goes_on ∙ (λ i. unify (substitution now) (sym is_top.on_left i) (sym is_top.on_right i)) ∙ ok.unifies;
    }

-- or fails
pub unifying_fails : (old now : State) (a b : ℕ) (z : Horizon) (pairs rest : List Pair) (p : Pair) → IsUnifying old now a b z pairs → pairs ≡ rest ++ p ∷ []
    → unify (substitution now) (term now p.left.at ++ lefts now rest) (term now p.right.at ++ rights now rest) ≡ None → unify (substitution old) (term old a) (term old b) ≡ None
unifying_fails old now a b z pairs rest p ok top fails =
    let is_top = top_is now pairs rest p top ok.pairs_live in
    sym ok.unifies ∙ (λ i. unify (substitution now) (is_top.on_left i) (is_top.on_right i)) ∙ fails
