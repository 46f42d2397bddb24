-- What the graph of two terms says, and that its models are the unifiers of the two.
use Rattle.std.proofs.Common.{◌≡◌, ℕ, zero, suc, ◌+◌, ◌<◌, ◌≤◌, inl, inr, true, nat_lt, length, get_or, set, take, drop, List, [], ◌∷◌, ◌++◌, refl, sym, ◌∙◌, ap, subst, arith, append-nil, take-append-drop}
use Rattle.std.specs.List.{flat_map}
use Rattle.std.specs.Prelude.{None}
use Rattle.std.proofs.Math.Nat.{zero-add, suc-add, add-zero}
use Rattle.std.proofs.lemmas.Bool.{and_parts, false≢true, ltb-true, cases_lt, cases_eq}
use Rattle.std.proofs.lemmas.List.{drop_more, drop_all, get_or_default, get_or_past, get_or-set_same, get_or-set_other, get_or-map}
use Rattle.cp_term.specs.declared.cell.Cell.{Cell}
use Rattle.cp_term.specs.declared.cell.Cell.TheVariants.{Var, Int, Atom, Func}
use Rattle.cp_term.specs.declared.cell_ref.CellRef.{CellRef}
use Rattle.cp_term.specs.CellRefs.{variable_of, cell_at, cells_at}
use Rattle.cp_term.specs.Preorder.{arity_of, has_arity, terms_after, is_terms, take_terms, drop_terms}
use Rattle.cp_term.specs.Substitution.{instance}
use Rattle.cp_term.specs.Unifier.{HasUnifier, GivesTerms}
use Rattle.cp_term.specs.TermGraph.{cell_of, next_of, end_of, places, argument_places, Every, EndsFrom, IsGraph, IsModel, Model}
use Rattle.cp_term.proofs.lemmas.PreorderLaws.{terms_after-add, terms_after-arity, is_terms-append, is_terms-take_terms, is_terms-drop_terms, take_terms-append}
use Rattle.cp_term.proofs.lemmas.SubstitutionLaws.{instance-append, is_terms-instance}

-- the cell that was read
pub cell_of-read : (refs : List CellRef) (i : ℕ) (x : CellRef) → i < length refs → x ≡ get_or refs i x → cell_of (cells_at refs) i ≡ cell_at x
cell_of-read refs i x h e = get_or-map cell_at refs i x (Var 0) h ∙ ap cell_at (sym e)

pub cell_of-got : (refs : List CellRef) (i : ℕ) (x : CellRef) → i < length refs → cell_of (cells_at refs) i ≡ cell_at (get_or refs i x)
cell_of-got refs i x h = get_or-map cell_at refs i x (Var 0) h

-- ---- terms one after another

pub drop_terms-add : (m n : ℕ) (cells : List Cell) → drop_terms (m + n) cells ≡ drop_terms n (drop_terms m cells)
drop_terms-add zero n cells = ap (λ k. drop_terms k cells) (zero-add n)
drop_terms-add (suc m) n [] = ap (λ k. drop_terms k []) (suc-add m n) ∙ nothing n where
  nothing : (k : ℕ) → [] ≡ drop_terms k []
  nothing zero = refl
  nothing (suc k) = refl
drop_terms-add (suc m) n (c ∷ cells) =
    ap (λ k. drop_terms k (c ∷ cells)) (suc-add m n)
    ∙ ap (λ k. drop_terms k cells) (terms_after-add c m n)
    ∙ drop_terms-add (terms_after c m) n cells

pub take_terms-add : (m n : ℕ) (cells : List Cell) → take_terms (m + n) cells ≡ take_terms m cells ++ take_terms n (drop_terms m cells)
take_terms-add zero n cells = ap (λ k. take_terms k cells) (zero-add n)
take_terms-add (suc m) n [] = ap (λ k. take_terms k []) (suc-add m n) ∙ nothing n where
  nothing : (k : ℕ) → [] ≡ take_terms k []
  nothing zero = refl
  nothing (suc k) = refl
take_terms-add (suc m) n (c ∷ cells) =
    ap (λ k. take_terms k (c ∷ cells)) (suc-add m n)
    ∙ ap (λ k. c ∷ take_terms k cells) (terms_after-add c m n)
    ∙ ap (λ xs. c ∷ xs) (take_terms-add (terms_after c m) n cells)

drop_terms-nil : (k : ℕ) → drop_terms k [] ≡ []
drop_terms-nil zero = refl
drop_terms-nil (suc k) = refl

length-drop_terms : (k : ℕ) (cells : List Cell) → length (drop_terms k cells) ≤ length cells
length-drop_terms zero cells = omega arith
length-drop_terms (suc k) [] = omega arith
length-drop_terms (suc k) (c ∷ cells) = let h = length-drop_terms (terms_after c k) cells in omega arith

-- what follows each cell is terms again
pub terms_from : (n p : ℕ) (cells : List Cell) → is_terms n cells ≡ true → (m : ℕ) × (is_terms m (drop p cells) ≡ true)
terms_from n zero cells h = (n, h)
terms_from n (suc p) [] h = (0, refl)
terms_from zero (suc p) (c ∷ cells) h = absurd (false≢true h)
terms_from (suc n) (suc p) (c ∷ cells) h = terms_from (terms_after c n) p cells (and_parts (has_arity c) (is_terms (terms_after c n) cells) h).1

-- ---- a table of ends

module _ (cells : List Cell) where
  at : (p : ℕ) → p < length cells → drop p cells ≡ cell_of cells p ∷ drop (p + 1) cells
  at p h = drop_more cells p (Var 0) h

  -- the place behind k terms
  pub end_of-drop : (from : ℕ) (ends : List ℕ) → length ends ≡ length cells → EndsFrom from cells ends → (k p : ℕ) → from ≤ p
      → (p ≤ end_of ends k p) × (drop (end_of ends k p) cells ≡ drop_terms k (drop p cells))
  end_of-drop from ends len table zero p h = (omega arith, refl)
  end_of-drop from ends len table (suc k) p h = elim (cases_lt p (length cells)) [
    | inl below ↦
        let entry = table p h below in
        let same : next_of ends p ≡ get_or ends p 0 = get_or_default ends p p 0 (omega arith) in
        let later : from ≤ next_of ends p = omega arith in
        let rest = end_of-drop from ends len table k (next_of ends p) later in
        let one : suc k ≡ 1 + k = omega arith in (
          omega arith,
          rest.1 ∙ ap (λ q. drop_terms k (drop q cells)) same ∙ ap (drop_terms k) entry.1 ∙ sym (drop_terms-add 1 k (drop p cells)) ∙ ap (λ j. drop_terms j (drop p cells)) (sym one),
        )
    | inr above ↦
        let same : next_of ends p ≡ p = get_or_past ends p p (omega arith) in
        let rest = end_of-drop from ends len table k (next_of ends p) (omega arith) in
        let gone : drop p cells ≡ [] = drop_all p cells above in (
          omega arith,
          rest.1 ∙ ap (λ q. drop_terms k (drop q cells)) same ∙ ap (drop_terms k) gone ∙ drop_terms-nil k ∙ sym (drop_terms-nil (suc k)) ∙ ap (drop_terms (suc k)) (sym gone),
        )
  ]

  -- one more entry
  pub EndsFrom-more : (p end : ℕ) (ends : List ℕ) → length ends ≡ length cells → p < length cells → EndsFrom (p + 1) cells ends
      → end ≡ end_of ends (arity_of (cell_of cells p)) (p + 1) → EndsFrom p cells (set ends p end)
  EndsFrom-more p end ends len below table is q le h = elim (cases_eq q p) [
    | inl e ↦
        let k = arity_of (cell_of cells p) in
        let found = end_of-drop (p + 1) ends len table k (p + 1) (omega arith) in
        let same : get_or (set ends p end) q 0 ≡ end = ap (λ j. get_or (set ends p end) j 0) e ∙ get_or-set_same ends p end 0 (omega arith) in
        let arity : terms_after (cell_of cells p) 0 ≡ k = terms_after-arity (cell_of cells p) 0 ∙ zero-add k in (
          omega arith,
          ap (λ j. drop j cells) (same ∙ is) ∙ found.1 ∙ ap (λ j. drop_terms j (drop (p + 1) cells)) (sym arity)
              ∙ sym (ap (drop_terms 1) (at p below)) ∙ ap (λ j. drop_terms 1 (drop j cells)) (sym e),
        )
    | inr ne ↦
        let same : get_or (set ends p end) q 0 ≡ get_or ends q 0 = get_or-set_other ends p q end 0 ne in
        let entry = table q (omega arith) h in
        (omega arith, ap (λ j. drop j cells) same ∙ entry.1)
  ]

-- ---- the first cell of terms

split_first : (m : ℕ) (c : Cell) (rest : List Cell) → is_terms m (c ∷ rest) ≡ true → (n : ℕ) × (m ≡ suc n) × (has_arity c ≡ true) × (is_terms (arity_of c + n) rest ≡ true)
split_first zero c rest h = absurd (false≢true h)
split_first (suc n) c rest h =
    let parts = and_parts (has_arity c) (is_terms (terms_after c n) rest) h in
    let same = terms_after-arity c n in
    let e : terms_after c n ≡ arity_of c + n = omega arith in
    (n, refl, parts.0, subst (λ k. is_terms k rest ≡ true) e parts.1)

pub arity_at_most : (c : Cell) → has_arity c ≡ true → arity_of c ≤ 255
arity_at_most (Var v) h = omega arith
arity_at_most (Int i) h = omega arith
arity_at_most (Atom a) h = omega arith
arity_at_most (Func f k) h = let below = ltb-true k 256 (and_parts (nat_lt 0 k) (nat_lt k 256) h).1 in omega arith

-- an instance begins as the term does
module _ (value : ℕ → List Cell) where
  pub first_variable : (v : ℕ) (rest : List Cell) → instance value (take_terms 1 (Var v ∷ rest)) ≡ value v
  first_variable v rest = append-nil (value v)

  pub first_other : (c : Cell) (rest : List Cell) → variable_of c ≡ None → instance value (take_terms 1 (c ∷ rest)) ≡ c ∷ instance value (take_terms (arity_of c) rest)
  first_other (Var v) rest h = cc
  first_other (Int i) rest h = refl
  first_other (Atom a) rest h = refl
  first_other (Func f k) rest h = ap (λ j. Func f k ∷ instance value (take_terms j rest)) (add-zero k)

  pub first_and_rest : (k : ℕ) (xs : List Cell) → instance value (take_terms (suc k) xs) ≡ instance value (take_terms 1 xs) ++ instance value (take_terms k (drop_terms 1 xs))
  first_and_rest k xs =
      let one : suc k ≡ 1 + k = omega arith in
      ap (λ j. instance value (take_terms j xs)) one ∙ ap (instance value) (take_terms-add 1 k xs) ∙ instance-append value (take_terms 1 xs) (take_terms k (drop_terms 1 xs))

-- ---- the places of a graph

module _ (cells : List Cell) (ends : List ℕ) (g : IsGraph cells ends) where
  pub next-drop : (p : ℕ) → p < length cells → drop (next_of ends p) cells ≡ drop_terms 1 (drop p cells)
  next-drop p h =
      let len = g.len in
      ap (λ q. drop q cells) (get_or_default ends p p 0 (omega arith)) ∙ (g.table p (omega arith) h).1

  pub next-later : (p : ℕ) → p < length cells → p < next_of ends p
  next-later p h =
      let len = g.len in
      let same : next_of ends p ≡ get_or ends p 0 = get_or_default ends p p 0 (omega arith) in
      let entry = g.table p (omega arith) h in omega arith

  -- where more terms begin there is a cell, and terms follow the first one
  more_terms : (k n p : ℕ) → is_terms (suc k + n) (drop p cells) ≡ true → (p < length cells) × (is_terms (1 + (k + n)) (drop p cells) ≡ true) × (is_terms (k + n) (drop (next_of ends p) cells) ≡ true)
  more_terms k n p h = elim (cases_lt p (length cells)) [
    | inl below ↦
        let one : suc k + n ≡ 1 + (k + n) = omega arith in
        let all : is_terms (1 + (k + n)) (drop p cells) ≡ true = subst (λ j. is_terms j (drop p cells) ≡ true) one h in
        (below, all, subst (λ xs. is_terms (k + n) xs ≡ true) (sym (next-drop p below)) (is_terms-drop_terms 1 (k + n) (drop p cells) all))
    | inr above ↦
        let none : is_terms (suc (k + n)) [] ≡ true = subst (λ j. is_terms j [] ≡ true) (suc-add k n) (subst (λ xs. is_terms (suc k + n) xs ≡ true) (drop_all p cells above) h) in
        absurd (false≢true none)
  ]

  pub places-within : (k n p : ℕ) → is_terms (k + n) (drop p cells) ≡ true → Every (λ q. q < length cells) (places ends k p)
  places-within zero n p h = tt
  places-within (suc k) n p h = let more = more_terms k n p h in (more.0, places-within k n (next_of ends p) more.2)

  -- what is known of a place
  pub at_place : (p : ℕ) → p < length cells → (n : ℕ) × (has_arity (cell_of cells p) ≡ true) × (is_terms (1 + n) (drop p cells) ≡ true) × (is_terms (arity_of (cell_of cells p) + n) (drop (p + 1) cells) ≡ true)
  at_place p below =
      let some = terms_from 2 p cells g.terms in
      let parts = split_first some.0 (cell_of cells p) (drop (p + 1) cells) (subst (λ xs. is_terms some.0 xs ≡ true) (at cells p below) some.1) in
      let one : some.0 ≡ 1 + parts.0 = omega arith in
      (parts.0, parts.2, subst (λ j. is_terms j (drop p cells) ≡ true) one some.1, parts.3)

  pub arguments-within : (p : ℕ) → p < length cells → Every (λ q. q < length cells) (argument_places cells ends p)
  arguments-within p below = let known = at_place p below in places-within (arity_of (cell_of cells p)) known.0 (p + 1) known.3

  pub arity-within : (p : ℕ) → p < length cells → arity_of (cell_of cells p) ≤ 255
  arity-within p below = arity_at_most (cell_of cells p) (at_place p below).1

  -- ---- a unifier makes a model

  module _ (value : ℕ → List Cell) (terms : GivesTerms value) where
    abbrev pub made : ℕ → List Cell
    made p = instance value (take_terms 1 (drop p cells))

    made_flat : (k n p : ℕ) → is_terms (k + n) (drop p cells) ≡ true → instance value (take_terms k (drop p cells)) ≡ flat_map made (places ends k p)
    made_flat zero n p h = refl
    made_flat (suc k) n p h =
        let more = more_terms k n p h in
        first_and_rest value k (drop p cells)
        ∙ ap (λ xs. made p ++ instance value (take_terms k xs)) (sym (next-drop p more.0))
        ∙ ap (λ xs. made p ++ xs) (made_flat k n (next_of ends p) more.2)

    pub made-IsModel : IsModel cells ends value made
    made-IsModel = record {
      values = terms;
      terms = λ p below. let known = at_place p below in is_terms-instance value 1 (take_terms 1 (drop p cells)) terms (is_terms-take_terms 1 known.0 (drop p cells) known.2);
      variables = λ p v below e.
          ap (λ xs. instance value (take_terms 1 xs)) (at cells p below ∙ ap (λ c. c ∷ drop (p + 1) cells) e) ∙ first_variable value v (drop (p + 1) cells);
      compounds = λ p below e.
          let known = at_place p below in
          ap (λ xs. instance value (take_terms 1 xs)) (at cells p below) ∙ first_other value (cell_of cells p) (drop (p + 1) cells) e
          ∙ ap (λ xs. cell_of cells p ∷ xs) (made_flat (arity_of (cell_of cells p)) known.0 (p + 1) known.3);
    }

  -- ---- a model has the instances of the terms

  module _ (value term : ℕ → List Cell) (m : IsModel cells ends value term) where
    first_by : (c : Cell) (p : ℕ) → p < length cells → cell_of cells p ≡ c
        → (variable_of c ≡ None → flat_map term (places ends (arity_of c) (p + 1)) ≡ instance value (take_terms (arity_of c) (drop (p + 1) cells)))
        → term p ≡ instance value (take_terms 1 (drop p cells))
    first_by c p below e rest = by c e rest where
      start : (c : Cell) → cell_of cells p ≡ c → drop p cells ≡ c ∷ drop (p + 1) cells
      start c e = at cells p below ∙ ap (λ d. d ∷ drop (p + 1) cells) e

      other : (c : Cell) → cell_of cells p ≡ c → variable_of c ≡ None
          → (variable_of c ≡ None → flat_map term (places ends (arity_of c) (p + 1)) ≡ instance value (take_terms (arity_of c) (drop (p + 1) cells)))
          → term p ≡ instance value (take_terms 1 (drop p cells))
      other c e none rest =
          m.compounds p below (ap variable_of e ∙ none)
          ∙ ap (λ d. d ∷ flat_map term (places ends (arity_of d) (p + 1))) e
          ∙ ap (λ xs. c ∷ xs) (rest none)
          ∙ sym (first_other value c (drop (p + 1) cells) none)
          ∙ ap (λ xs. instance value (take_terms 1 xs)) (sym (start c e))

      by : (c : Cell) → cell_of cells p ≡ c
          → (variable_of c ≡ None → flat_map term (places ends (arity_of c) (p + 1)) ≡ instance value (take_terms (arity_of c) (drop (p + 1) cells)))
          → term p ≡ instance value (take_terms 1 (drop p cells))
      by (Var v) e rest =
          m.variables p v below e ∙ sym (first_variable value v (drop (p + 1) cells)) ∙ ap (λ xs. instance value (take_terms 1 xs)) (sym (start (Var v) e))
      by (Int i) e rest = other (Int i) e refl rest
      by (Atom a) e rest = other (Atom a) e refl rest
      by (Func f k) e rest = other (Func f k) e refl rest

    flat_by : (size k n p : ℕ) → length cells ≤ p + size → is_terms (k + n) (drop p cells) ≡ true → flat_map term (places ends k p) ≡ instance value (take_terms k (drop p cells))
    flat_by size zero n p small h = refl
    flat_by zero (suc k) n p small h = let more = more_terms k n p h in absurd (omega arith)
    flat_by (suc size) (suc k) n p small h =
        let more = more_terms k n p h in
        let known = at_place p more.0 in
        let c = cell_of cells p in
        let later = next-later p more.0 in
        let first : term p ≡ instance value (take_terms 1 (drop p cells)) =
        first_by c p more.0 refl (λ none. flat_by size (arity_of c) known.0 (p + 1) (omega arith) known.3) in
        (λ i. first i ++ flat_by size k n (next_of ends p) (omega arith) more.2 i)
        ∙ ap (λ xs. instance value (take_terms 1 (drop p cells)) ++ instance value (take_terms k xs)) (next-drop p more.0)
        ∙ sym (first_and_rest value k (drop p cells))

    pub model-instance : (p : ℕ) → p < length cells → term p ≡ instance value (take_terms 1 (drop p cells))
    model-instance p below =
        let known = at_place p below in
        first_by (cell_of cells p) p below refl (λ none. flat_by (length cells) (arity_of (cell_of cells p)) known.0 (p + 1) (omega arith) known.3)

-- ---- models are unifiers

module _ (cells : List Cell) (second : ℕ) (ha : is_terms 1 (take second cells) ≡ true) (hb : is_terms 1 (drop second cells) ≡ true) where
  pub two_terms : is_terms 2 cells ≡ true
  two_terms = ap (is_terms 2) (sym (take-append-drop second cells)) ∙ is_terms-append 1 1 (take second cells) (drop second cells) ha ∙ hb

  pub second-within : second < length cells
  second-within = elim (cases_lt second (length cells)) [
    | inl below ↦ below
    | inr above ↦ absurd (false≢true (subst (λ xs. is_terms 1 xs ≡ true) (drop_all second cells above) hb))
  ]

  left : take_terms 1 cells ≡ take second cells
  left = ap (take_terms 1) (sym (take-append-drop second cells)) ∙ take_terms-append 1 (take second cells) (drop second cells) ha

  right : take_terms 1 (drop second cells) ≡ drop second cells
  right = ap (take_terms 1) (sym (append-nil (drop second cells))) ∙ take_terms-append 1 (drop second cells) [] hb

  module _ (ends : List ℕ) (g : IsGraph cells ends) where
    pub unifier-Model : HasUnifier (take second cells) (drop second cells) → Model cells ends second
    unifier-Model u = record {
      value = u.0;
      term = made cells ends g u.0 u.1.terms;
      is_model = made-IsModel cells ends g u.0 u.1.terms;
      equal = ap (instance u.0) left ∙ u.1.equal ∙ ap (instance u.0) (sym right);
    }

    pub Model-unifier : Model cells ends second → HasUnifier (take second cells) (drop second cells)
    Model-unifier m =
        let below = second-within in (
          m.value,
          record {
            terms = m.is_model.values;
            equal =
                ap (instance m.value) (sym left) ∙ sym (model-instance cells ends g m.value m.term m.is_model 0 (omega arith))
                ∙ m.equal ∙ model-instance cells ends g m.value m.term m.is_model second below ∙ ap (instance m.value) right;
          },
        )
