-- What the classes of places keep while pairs are joined.
use Rattle.std.proofs.Common.{◌≡◌, ℕ, zero, suc, ◌+◌, ◌<◌, ◌≤◌, max, min, inl, inr, ◌⊎◌, true, false, length, get_or, set, sum, map, List, [], ◌∷◌, ◌++◌, refl, sym, ◌∙◌, ap, subst, arith}
use Rattle.std.specs.List.{flat_map}
use mathlib.Core.Path.{subst₂}
use Rattle.std.specs.Prelude.{Option, Some, None, is_some}
use Rattle.std.proofs.lemmas.Bool.{cases_eq, true≢false}
use Rattle.std.proofs.lemmas.List.{length-set, get_or-set_same, get_or-set_other, append_cancel_left}
use Rattle.cp_term.specs.declared.cell.Cell.{Cell}
use Rattle.cp_term.specs.declared.cell.Cell.TheVariants.{Var, Int, Atom, Func}
use Rattle.cp_term.specs.declared.classes.Pair.{Pair}
use Rattle.cp_term.specs.CellEq.{cell_eq, cell_eq-true, cell_eq-refl}
use Rattle.cp_term.specs.CellRefs.{variable_of}
use Rattle.cp_term.specs.Preorder.{arity_of, is_terms, take_terms}
use Rattle.cp_term.specs.TermGraph.{cell_of, next_of, places, argument_places, Every, IsGraph, Model}
use Rattle.cp_term.specs.Classes.{Agree, AreWithin, pairs_of, Falls, IsForest, IsClosed, HasSchemas, Joining, Clashes, Combines}
use Rattle.cp_term.proofs.lemmas.PreorderLaws.{take_terms-append}
use Rattle.cp_term.proofs.lemmas.TermGraphLaws.{arguments-within, arity-within}
use Rattle.cp_term.proofs.lemmas.Forest.{Falls-set, IsForest-join, root_after, root_after-most, root_after-other, sum-set-lt}

-- ---- pairs

module _ {A : Type 0} (f : ℕ → A) where
  pub Agree-front : (xs ys : List Pair) → Agree f (xs ++ ys) → Agree f xs
  Agree-front [] ys h = tt
  Agree-front (x ∷ xs) ys h = (h.0, Agree-front xs ys h.1)

  pub Agree-back : (xs ys : List Pair) → Agree f (xs ++ ys) → Agree f ys
  Agree-back [] ys h = h
  Agree-back (x ∷ xs) ys h = Agree-back xs ys h.1

  pub Agree-join : (xs ys : List Pair) → Agree f xs → Agree f ys → Agree f (xs ++ ys)
  Agree-join [] ys h k = k
  Agree-join (x ∷ xs) ys h k = (h.0, Agree-join xs ys h.1 k)

  pub Agree-map : (ends : List ℕ) (k x y : ℕ) → Agree f (pairs_of ends k x y) → map f (places ends k x) ≡ map f (places ends k y)
  Agree-map ends zero x y h = refl
  Agree-map ends (suc k) x y h = λ i. h.0 i ∷ Agree-map ends k (next_of ends x) (next_of ends y) h.1 i

pub AreWithin-front : (n : ℕ) (xs ys : List Pair) → AreWithin n (xs ++ ys) → AreWithin n xs
AreWithin-front n [] ys h = tt
AreWithin-front n (x ∷ xs) ys h = (h.0, h.1, AreWithin-front n xs ys h.2)

pub AreWithin-back : (n : ℕ) (xs ys : List Pair) → AreWithin n (xs ++ ys) → AreWithin n ys
AreWithin-back n [] ys h = h
AreWithin-back n (x ∷ xs) ys h = AreWithin-back n xs ys h.2

pub AreWithin-join : (n : ℕ) (xs ys : List Pair) → AreWithin n xs → AreWithin n ys → AreWithin n (xs ++ ys)
AreWithin-join n [] ys h k = k
AreWithin-join n (x ∷ xs) ys h k = (h.0, h.1, AreWithin-join n xs ys h.2 k)

AreWithin-pairs_of : (n : ℕ) (ends : List ℕ) (k x y : ℕ) → Every (λ q. q < n) (places ends k x) → Every (λ q. q < n) (places ends k y) → AreWithin n (pairs_of ends k x y)
AreWithin-pairs_of n ends zero x y h j = tt
AreWithin-pairs_of n ends (suc k) x y h j = (h.0, j.0, AreWithin-pairs_of n ends k (next_of ends x) (next_of ends y) h.1 j.1)

pub length-pairs_of : (ends : List ℕ) (k x y : ℕ) → length (pairs_of ends k x y) ≡ k
length-pairs_of ends zero x y = refl
length-pairs_of ends (suc k) x y = ap suc (length-pairs_of ends k (next_of ends x) (next_of ends y))

-- lists of terms are the same only if each term is
Agree-terms : (term : ℕ → List Cell) (ends : List ℕ) (n k x y : ℕ) → ((p : ℕ) → p < n → is_terms 1 (term p) ≡ true)
    → Every (λ q. q < n) (places ends k x) → Every (λ q. q < n) (places ends k y)
    → flat_map term (places ends k x) ≡ flat_map term (places ends k y) → Agree term (pairs_of ends k x y)
Agree-terms term ends n zero x y t h j e = tt
Agree-terms term ends n (suc k) x y t h j e =
    let xs = flat_map term (places ends k (next_of ends x)) in
    let ys = flat_map term (places ends k (next_of ends y)) in
    let first : term x ≡ term y = sym (take_terms-append 1 (term x) xs (t x h.0)) ∙ ap (take_terms 1) e ∙ take_terms-append 1 (term y) ys (t y j.0) in
    let rest : xs ≡ ys = append_cancel_left (term x) xs ys (e ∙ ap (λ zs. zs ++ ys) (sym first)) in
    (first, Agree-terms term ends n k (next_of ends x) (next_of ends y) t h.1 j.1 rest)

-- ---- variables have no arguments

arity-variable : (c : Cell) (v : ℕ) → variable_of c ≡ Some v → arity_of c ≡ 0
arity-variable (Var u) v e = refl
arity-variable (Int i) v e = refl
arity-variable (Atom a) v e = refl
arity-variable (Func f k) v e = cc

module _ (c d : Cell) (x y s : ℕ) (combines : Combines c d x y s) (same_place : x ≡ y → c ≡ d) where
  both_compound : variable_of c ≡ None → variable_of d ≡ None → c ≡ d
  both_compound hc hd = elim (combines.right hd) [
    | inl e ↦ same_place (sym (combines.left hc) ∙ e)
    | inr e ↦ e.1
  ]

  -- there are no pairs, or those of all arguments of two terms that begin alike
  pairs_by : (u v : Option ℕ) → variable_of c ≡ u → variable_of d ≡ v
      → (min (arity_of c) (arity_of d) ≡ 0) ⊎ ((variable_of c ≡ None) × (variable_of d ≡ None) × (c ≡ d))
  pairs_by (Some u) v hc hd = let none = arity-variable c u hc in inl (omega arith)
  pairs_by None (Some v) hc hd = let none = arity-variable d v hd in inl (omega arith)
  pairs_by None None hc hd = inr (hc, hd, both_compound hc hd)

-- ---- one pair

module _ (cells : List Cell) (ends : List ℕ) (second : ℕ) (g : IsGraph cells ends) (parents schemas : List ℕ) (pairs : List Pair) (pair : Pair)
    (j : Joining cells ends second parents schemas (pairs ++ pair ∷ [])) where
  abbrev n : ℕ
  n = length cells

  pub pair-within : (pair.left < n) × (pair.right < n)
  pair-within = let all = AreWithin-back n pairs (pair ∷ []) j.within in (all.0, all.1)

  abbrev l : ℕ
  l = j.root pair.left

  abbrev r : ℕ
  r = j.root pair.right

  abbrev x : ℕ
  x = get_or schemas l 0

  abbrev y : ℕ
  y = get_or schemas r 0

  schema_term : (m : Model cells ends second) (p : ℕ) → p < n → m.term (get_or schemas (j.root p) 0) ≡ m.term p
  schema_term m p h =
      let len = j.len in
      let below = j.forest.below p (omega arith) in
      let inside = j.has_schemas.within (j.root p) (omega arith) in
      j.sound m (get_or schemas (j.root p) 0) inside ∙ ap m.term (j.has_schemas.inside p h) ∙ sym (j.sound m p h)

  pair_term : (m : Model cells ends second) → m.term pair.left ≡ m.term pair.right
  pair_term m = (Agree-back m.term pairs (pair ∷ []) (j.sound_pairs m)).0

  schemas_term : (m : Model cells ends second) → m.term x ≡ m.term y
  schemas_term m = schema_term m pair.left pair-within.0 ∙ pair_term m ∙ sym (schema_term m pair.right pair-within.1)

  pub roots-within : (l < n) × (r < n)
  roots-within =
      let len = j.len in
      let inside = pair-within in
      let left = j.forest.below pair.left (omega arith) in
      let right = j.forest.below pair.right (omega arith) in
      (omega arith, omega arith)

  pub schemas-within : (x < n) × (y < n)
  schemas-within = (j.has_schemas.within l roots-within.0, j.has_schemas.within r roots-within.1)

  -- schemas that clash have no common term
  pub clash-no_model : Clashes (cell_of cells x) (cell_of cells y) → Model cells ends second → ⊥
  clash-no_model clash m =
      let left = m.is_model.compounds x schemas-within.0 clash.left in
      let right = m.is_model.compounds y schemas-within.1 clash.right in
      let same : cell_of cells x ∷ flat_map m.term (argument_places cells ends x) ≡ cell_of cells y ∷ flat_map m.term (argument_places cells ends y) =
      sym left ∙ schemas_term m ∙ right in
      let first : cell_of cells x ≡ cell_of cells y = cc in
      clash.differ first

  module _ (now : List ℕ) (len : length now ≡ n) (falls : Falls now) (forest : IsForest now j.root) where
    -- the two places are in one class already
    pub Joining-same : l ≡ r → Joining cells ends second now schemas pairs
    Joining-same e = record {
      first = j.first;
      root = j.root;
      first_within = j.first_within;
      len = len;
      falls = falls;
      forest = forest;
      has_schemas = j.has_schemas;
      within = AreWithin-front n pairs (pair ∷ []) j.within;
      sound = j.sound;
      sound_pairs = λ m. Agree-front m.term pairs (pair ∷ []) (j.sound_pairs m);
      complete = λ f h a. j.complete f h (Agree-join f pairs (pair ∷ []) a (h pair.left pair-within.0 ∙ ap f e ∙ sym (h pair.right pair-within.1), tt));
    }

    -- a root is its own parent
    own_parent : (p : ℕ) → p < n → j.root p ≡ p → get_or now p 0 ≡ p
    own_parent p h e =
        let up = falls p (omega arith) in
        let same = forest.above p (omega arith) in
        let below = forest.below (get_or now p 0) (omega arith) in
        omega arith

    module _ (differ : l ≡ r → ⊥) (s : ℕ) (combines : Combines (cell_of cells x) (cell_of cells y) x y s) where
      abbrev least : ℕ
      least = min l r

      abbrev most : ℕ
      most = max l r

      abbrev after : ℕ → ℕ
      after = root_after j.root least most

      abbrev schemas_after : List ℕ
      schemas_after = set schemas least s

      abbrev count : ℕ
      count = min (arity_of (cell_of cells x)) (arity_of (cell_of cells y))

      abbrev more : List Pair
      more = pairs_of ends count (x + 1) (y + 1)

      l_root : j.root l ≡ l
      l_root = let inside = pair-within in let same = j.len in j.forest.once pair.left (omega arith)

      r_root : j.root r ≡ r
      r_root = let inside = pair-within in let same = j.len in j.forest.once pair.right (omega arith)

      least_root : j.root least ≡ least
      least_root = elim (cases_eq l least) [
        | inl e ↦ ap j.root (sym e) ∙ l_root ∙ e
        | inr ne ↦ let e : r ≡ least = omega arith in ap j.root (sym e) ∙ r_root ∙ e
      ]

      most_root : j.root most ≡ most
      most_root = elim (cases_eq l most) [
        | inl e ↦ ap j.root (sym e) ∙ l_root ∙ e
        | inr ne ↦ let e : r ≡ most = omega arith in ap j.root (sym e) ∙ r_root ∙ e
      ]

      less : least < most
      less = omega arith

      most_within : most < length now
      most_within = let inside = roots-within in omega arith

      least_within : least < n
      least_within = let inside = roots-within in omega arith

      pub forest-after : IsForest (set now most least) after
      forest-after = IsForest-join now j.root forest least most less most_within least_root most_root

      pub falls-after : Falls (set now most least)
      falls-after = Falls-set now most least most_within (omega arith) falls

      pub sum-after : sum (set now most least) + 1 ≤ sum now
      sum-after =
          let inside = most_within in
          let own = own_parent most (omega arith) most_root in
          let lower = less in
          sum-set-lt now most least most_within (omega arith)

      -- a place of the two classes, and another one
      into : (p : ℕ) → (j.root p ≡ l) ⊎ (j.root p ≡ r) → after p ≡ least
      into p h = elim (cases_eq (j.root p) most) [
        | inl e ↦ root_after-most now j.root forest least most less most_within least_root most_root p e
        | inr ne ↦
            let e : j.root p ≡ least = elim h [ inl q ↦ omega arith | inr q ↦ omega arith ] in
            root_after-other now j.root forest least most less most_within least_root most_root p ne ∙ e
      ]

      apart : (p : ℕ) → (j.root p ≡ l → ⊥) → (j.root p ≡ r → ⊥) → after p ≡ j.root p
      apart p hl hr = root_after-other now j.root forest least most less most_within least_root most_root p (other p hl hr) where
        other : (p : ℕ) → (j.root p ≡ l → ⊥) → (j.root p ≡ r → ⊥) → j.root p ≡ most → ⊥
        other p hl hr e = elim (cases_eq l most) [
          | inl q ↦ hl (e ∙ sym q)
          | inr ne ↦ let q : r ≡ most = omega arith in hr (e ∙ sym q)
        ]

      schema_into : (p : ℕ) → (j.root p ≡ l) ⊎ (j.root p ≡ r) → get_or schemas_after (after p) 0 ≡ s
      schema_into p h =
          let len_schemas = j.has_schemas.len in
          let inside = least_within in
          ap (λ q. get_or schemas_after q 0) (into p h) ∙ get_or-set_same schemas least s 0 (omega arith)

      schema_apart : (p : ℕ) → (j.root p ≡ l → ⊥) → (j.root p ≡ r → ⊥) → get_or schemas_after (after p) 0 ≡ get_or schemas (j.root p) 0
      schema_apart p hl hr = ap (λ q. get_or schemas_after q 0) (apart p hl hr) ∙ get_or-set_other schemas least (j.root p) s 0 (other p hl hr) where
        other : (p : ℕ) → (j.root p ≡ l → ⊥) → (j.root p ≡ r → ⊥) → j.root p ≡ least → ⊥
        other p hl hr e = elim (cases_eq l least) [
          | inl q ↦ hl (e ∙ sym q)
          | inr ne ↦ let q : r ≡ least = omega arith in hr (e ∙ sym q)
        ]

      by_class : (P : Type 0) (p : ℕ) → (j.root p ≡ l → P) → (j.root p ≡ r → P) → ((j.root p ≡ l → ⊥) → (j.root p ≡ r → ⊥) → P) → P
      by_class P p hl hr ho = elim (cases_eq (j.root p) l) [
        | inl e ↦ hl e
        | inr nl ↦ elim (cases_eq (j.root p) r) [ inl e ↦ hr e | inr nr ↦ ho nl nr ]
      ]

      chosen_within : s < n
      chosen_within = elim combines.one [
        | inl e ↦ let h = schemas-within in omega arith
        | inr e ↦ let h = schemas-within in omega arith
      ]

      x_root : j.root x ≡ l
      x_root = j.has_schemas.inside pair.left pair-within.0

      y_root : j.root y ≡ r
      y_root = j.has_schemas.inside pair.right pair-within.1

      chosen_root : (j.root s ≡ l) ⊎ (j.root s ≡ r)
      chosen_root = elim combines.one [
        | inl e ↦ inl (ap j.root e ∙ x_root)
        | inr e ↦ inr (ap j.root e ∙ y_root)
      ]

      -- the schemas of the two classes are the cells of their places that are no variables
      x_cell : (p : ℕ) → p < n → j.root p ≡ l → variable_of (cell_of cells p) ≡ None → cell_of cells x ≡ cell_of cells p
      x_cell p h e none = ap (λ q. cell_of cells (get_or schemas q 0)) (sym e) ∙ j.has_schemas.same p h none

      y_cell : (p : ℕ) → p < n → j.root p ≡ r → variable_of (cell_of cells p) ≡ None → cell_of cells y ≡ cell_of cells p
      y_cell p h e none = ap (λ q. cell_of cells (get_or schemas q 0)) (sym e) ∙ j.has_schemas.same p h none

      pub has_schemas-after : HasSchemas cells after schemas_after
      has_schemas-after = record {
        len = length-set schemas least s ∙ j.has_schemas.len;
        within = λ p h. elim (cases_eq p least) [
          | inl e ↦
              let len_schemas = j.has_schemas.len in
              let at : get_or schemas_after p 0 ≡ s = ap (λ q. get_or schemas_after q 0) e ∙ get_or-set_same schemas least s 0 (omega arith) in
              let inside = chosen_within in omega arith
          | inr ne ↦
              let at : get_or schemas_after p 0 ≡ get_or schemas p 0 = get_or-set_other schemas least p s 0 ne in
              let inside = j.has_schemas.within p h in omega arith
        ];
        inside = λ p h. by_class (after (get_or schemas_after (after p) 0) ≡ after p) p
            (λ e. ap after (schema_into p (inl e)) ∙ into s chosen_root ∙ sym (into p (inl e)))
            (λ e. ap after (schema_into p (inr e)) ∙ into s chosen_root ∙ sym (into p (inr e)))
            (λ nl nr.
            let inside = j.has_schemas.inside p h in
            ap after (schema_apart p nl nr)
            ∙ apart (get_or schemas (j.root p) 0) (λ q. nl (sym inside ∙ q)) (λ q. nr (sym inside ∙ q)) ∙ inside ∙ sym (apart p nl nr));
        same = λ p h none. by_class (cell_of cells (get_or schemas_after (after p) 0) ≡ cell_of cells p) p
            (λ e.
            let same = x_cell p h e none in
            ap (cell_of cells) (schema_into p (inl e) ∙ combines.left (ap variable_of same ∙ none)) ∙ same)
            (λ e.
            let same = y_cell p h e none in
            ap (cell_of cells) (schema_into p (inr e)) ∙ (elim (combines.right (ap variable_of same ∙ none)) [
              | inl q ↦ ap (cell_of cells) q ∙ same
              | inr q ↦ ap (cell_of cells) q.0 ∙ q.1 ∙ same
            ]))
            (λ nl nr. ap (cell_of cells) (schema_apart p nl nr) ∙ j.has_schemas.same p h none);
      }

      -- the new pairs are none, or those of all arguments
      new_pairs : (count ≡ 0) ⊎ ((variable_of (cell_of cells x) ≡ None) × (variable_of (cell_of cells y) ≡ None) × (cell_of cells x ≡ cell_of cells y))
      new_pairs = pairs_by (cell_of cells x) (cell_of cells y) x y s combines (ap (cell_of cells)) (variable_of (cell_of cells x)) (variable_of (cell_of cells y)) refl refl

      nothing : (P : List Pair → Type 0) → P [] → count ≡ 0 → P more
      nothing P h e = subst (λ k. P (pairs_of ends k (x + 1) (y + 1))) (sym e) h

      left_count : cell_of cells x ≡ cell_of cells y → arity_of (cell_of cells x) ≡ count
      left_count e = let same = ap arity_of e in omega arith

      right_count : cell_of cells x ≡ cell_of cells y → arity_of (cell_of cells y) ≡ count
      right_count e = let same = ap arity_of e in omega arith

      x_arguments : cell_of cells x ≡ cell_of cells y → argument_places cells ends x ≡ places ends count (x + 1)
      x_arguments e = ap (λ k. places ends k (x + 1)) (left_count e)

      y_arguments : cell_of cells x ≡ cell_of cells y → argument_places cells ends y ≡ places ends count (y + 1)
      y_arguments e = ap (λ k. places ends k (y + 1)) (right_count e)

      x_inside : cell_of cells x ≡ cell_of cells y → Every (λ q. q < n) (places ends count (x + 1))
      x_inside e = subst (Every (λ q. q < n)) (x_arguments e) (arguments-within cells ends g x schemas-within.0)

      y_inside : cell_of cells x ≡ cell_of cells y → Every (λ q. q < n) (places ends count (y + 1))
      y_inside e = subst (Every (λ q. q < n)) (y_arguments e) (arguments-within cells ends g y schemas-within.1)

      more_within : AreWithin n more
      more_within = elim new_pairs [
        | inl e ↦ nothing (AreWithin n) tt e
        | inr e ↦ AreWithin-pairs_of n ends count (x + 1) (y + 1) (x_inside e.2) (y_inside e.2)
      ]

      more_sound : (m : Model cells ends second) → Agree m.term more
      more_sound m = elim new_pairs [
        | inl e ↦ nothing (Agree m.term) tt e
        | inr e ↦
            let left = m.is_model.compounds x schemas-within.0 e.0 in
            let right = m.is_model.compounds y schemas-within.1 e.1 in
            let same : cell_of cells x ∷ flat_map m.term (argument_places cells ends x) ≡ cell_of cells y ∷ flat_map m.term (argument_places cells ends y) =
            sym left ∙ schemas_term m ∙ right in
            let rest : flat_map m.term (argument_places cells ends x) ≡ flat_map m.term (argument_places cells ends y) = cc in
            Agree-terms m.term ends n count (x + 1) (y + 1) m.is_model.terms (x_inside e.2) (y_inside e.2)
            (ap (flat_map m.term) (sym (x_arguments e.2)) ∙ rest ∙ ap (flat_map m.term) (y_arguments e.2))
      ]

      pub more-few : length more ≤ 255
      more-few =
          let len_more = length-pairs_of ends count (x + 1) (y + 1) in
          let few = arity-within cells ends g x schemas-within.0 in omega arith

      sound_after : (m : Model cells ends second) (p : ℕ) → p < n → m.term p ≡ m.term (after p)
      sound_after m p h =
          let roots : m.term l ≡ m.term r = sym (j.sound m pair.left pair-within.0) ∙ pair_term m ∙ j.sound m pair.right pair-within.1 in
          let at_least : m.term l ≡ m.term least = elim (cases_eq l least) [
            | inl e ↦ ap m.term e
            | inr ne ↦ let e : r ≡ least = omega arith in roots ∙ ap m.term e
          ] in
          by_class (m.term p ≡ m.term (after p)) p
          (λ e. j.sound m p h ∙ ap m.term e ∙ at_least ∙ ap m.term (sym (into p (inl e))))
          (λ e. j.sound m p h ∙ ap m.term e ∙ sym roots ∙ at_least ∙ ap m.term (sym (into p (inr e))))
          (λ nl nr. j.sound m p h ∙ ap m.term (sym (apart p nl nr)))

      module _ (f : ℕ → ℕ) (respects : (p : ℕ) → p < n → f p ≡ f (after p)) (agrees : Agree f (pairs ++ more)) where
        respects_before : (p : ℕ) → p < n → f p ≡ f (j.root p)
        respects_before p h = by_class (f p ≡ f (j.root p)) p
            (λ e. respects p h ∙ ap f (into p (inl e)) ∙ sym (respects l roots-within.0 ∙ ap f (into l (inl l_root))) ∙ ap f (sym e))
            (λ e. respects p h ∙ ap f (into p (inr e)) ∙ sym (respects r roots-within.1 ∙ ap f (into r (inr r_root))) ∙ ap f (sym e))
            (λ nl nr. respects p h ∙ ap f (apart p nl nr))

        pair_agrees : f pair.left ≡ f pair.right
        pair_agrees =
            respects pair.left pair-within.0 ∙ ap f (into pair.left (inl refl))
            ∙ sym (respects pair.right pair-within.1 ∙ ap f (into pair.right (inr refl)))

        before : IsClosed cells ends second j.first j.root schemas f
        before = j.complete f respects_before (Agree-join f pairs (pair ∷ []) (Agree-front f pairs more agrees) (pair_agrees, tt))

        arguments_agree : cell_of cells x ≡ cell_of cells y → map f (argument_places cells ends x) ≡ map f (argument_places cells ends y)
        arguments_agree e =
            ap (map f) (x_arguments e) ∙ Agree-map f ends count (x + 1) (y + 1) (Agree-back f pairs more agrees) ∙ ap (map f) (sym (y_arguments e))

        closed_after : IsClosed cells ends second j.first after schemas_after f
        closed_after = record {
          equal = before.equal;
          variables = before.variables;
          compounds = λ p h none. by_class (map f (argument_places cells ends (get_or schemas_after (after p) 0)) ≡ map f (argument_places cells ends p)) p
              (λ e.
              let same = x_cell p h e none in
              ap (λ q. map f (argument_places cells ends q)) (schema_into p (inl e) ∙ combines.left (ap variable_of same ∙ none))
              ∙ ap (λ q. map f (argument_places cells ends (get_or schemas q 0))) (sym e) ∙ before.compounds p h none)
              (λ e.
              let same = y_cell p h e none in
              let old : map f (argument_places cells ends y) ≡ map f (argument_places cells ends p) =
              ap (λ q. map f (argument_places cells ends (get_or schemas q 0))) (sym e) ∙ before.compounds p h none in
              ap (λ q. map f (argument_places cells ends q)) (schema_into p (inr e)) ∙ (elim (combines.right (ap variable_of same ∙ none)) [
                | inl q ↦ ap (λ k. map f (argument_places cells ends k)) q ∙ old
                | inr q ↦ ap (λ k. map f (argument_places cells ends k)) q.0 ∙ arguments_agree q.1 ∙ old
              ]))
              (λ nl nr. ap (λ q. map f (argument_places cells ends q)) (schema_apart p nl nr) ∙ before.compounds p h none);
        }

      pub Joining-join : Joining cells ends second (set now most least) schemas_after (pairs ++ more)
      Joining-join = record {
        first = j.first;
        root = after;
        first_within = j.first_within;
        len = length-set now most least ∙ len;
        falls = falls-after;
        forest = forest-after;
        has_schemas = has_schemas-after;
        within = AreWithin-join n pairs more (AreWithin-front n pairs (pair ∷ []) j.within) more_within;
        sound = sound_after;
        sound_pairs = λ m. Agree-join m.term pairs more (Agree-front m.term pairs (pair ∷ []) (j.sound_pairs m)) (more_sound m);
        complete = closed_after;
      }

-- ---- the same, where the roots are known by other names

abbrev pub more_of : List Cell → List ℕ → List ℕ → ℕ → ℕ → List Pair
more_of cells ends schemas p q =
    pairs_of ends (min (arity_of (cell_of cells (get_or schemas p 0))) (arity_of (cell_of cells (get_or schemas q 0)))) (get_or schemas p 0 + 1) (get_or schemas q 0 + 1)

abbrev pub CombinesAt : List Cell → List ℕ → ℕ → ℕ → ℕ → Type 0
CombinesAt cells schemas p q s = Combines (cell_of cells (get_or schemas p 0)) (cell_of cells (get_or schemas q 0)) (get_or schemas p 0) (get_or schemas q 0) s

module _ (cells : List Cell) (ends : List ℕ) (second : ℕ) (g : IsGraph cells ends) (parents schemas : List ℕ) (pairs : List Pair) (pair : Pair)
    (j : Joining cells ends second parents schemas (pairs ++ pair ∷ [])) (p q : ℕ) (at_left : p ≡ j.root pair.left) (at_right : q ≡ j.root pair.right) where
  pub named-clash : Clashes (cell_of cells (get_or schemas p 0)) (cell_of cells (get_or schemas q 0)) → Model cells ends second → ⊥
  named-clash =
      subst₂ (λ v w. Clashes (cell_of cells (get_or schemas v 0)) (cell_of cells (get_or schemas w 0)) → Model cells ends second → ⊥) (sym at_left) (sym at_right)
      (clash-no_model cells ends second g parents schemas pairs pair j)

  pub named-roots : (p < length cells) × (q < length cells)
  named-roots = subst₂ (λ v w. (v < length cells) × (w < length cells)) (sym at_left) (sym at_right) (roots-within cells ends second g parents schemas pairs pair j)

  module _ (now : List ℕ) (len : length now ≡ length cells) (falls : Falls now) (forest : IsForest now j.root) where
    pub named-same : p ≡ q → Joining cells ends second now schemas pairs
    named-same e = Joining-same cells ends second g parents schemas pairs pair j now len falls forest (sym at_left ∙ e ∙ at_right)

    abbrev After : ℕ → ℕ → ℕ → Type 0
    After s v w =
        (Joining cells ends second (set now (max v w) (min v w)) (set schemas (min v w) s) (pairs ++ more_of cells ends schemas v w))
        × (sum (set now (max v w) (min v w)) + 1 ≤ sum now) × (length (more_of cells ends schemas v w) ≤ 255)

    pub named-join : (p ≡ q → ⊥) → (s : ℕ) → CombinesAt cells schemas p q s → After s p q
    named-join differ s combines =
        subst₂ (λ v w. (v ≡ w → ⊥) → CombinesAt cells schemas v w s → After s v w) (sym at_left) (sym at_right)
        (λ d c. (
          Joining-join cells ends second g parents schemas pairs pair j now len falls forest d s c,
          sum-after cells ends second g parents schemas pairs pair j now len falls forest d s c,
          more-few cells ends second g parents schemas pairs pair j now len falls forest d s c,
        ))
        differ combines

-- ---- what the comparison of two cells says

is_none : {A : Type 0} (o : Option A) → is_some o ≡ false → o ≡ None
is_none None h = refl
is_none (Some x) h = absurd (true≢false h)

pub Clashes-from : (c d : Cell) → is_some (variable_of c) ≡ false → is_some (variable_of d) ≡ false → cell_eq c d ≡ false → Clashes c d
Clashes-from c d hc hd h = record {
  left = is_none (variable_of c) hc;
  right = is_none (variable_of d) hd;
  differ = λ e. true≢false (sym (cell_eq-refl c) ∙ ap (cell_eq c) e ∙ h);
}

pub Combines-from : (c d : Cell) (x y : ℕ) → cell_eq c d ≡ true → Combines c d x y x
Combines-from c d x y h = record { left = λ _. refl; right = λ _. inr (refl, cell_eq-true c d h); one = inl refl }
