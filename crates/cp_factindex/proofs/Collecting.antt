-- Rows that are gathered one after another, and what is left when they go.
use Rattle.std.proofs.Common.{◌≡◌, ℕ, suc, ◌+◌, ◌≤◌, Bool, true, false, not, ◌&&◌, ◌||◌, cond, List, [], ◌∷◌, ◌++◌, length, filter, Option, Some, None, refl, sym, ◌∙◌, ap, subst, arith}
use Rattle.std.specs.Prelude.{ℤ, int_lt, map}
use Rattle.std.specs.Ordering.{int_eq, is_eq}
use Rattle.std.specs.Cmp.{tied_itself, int_cmp_total}
use Rattle.std.proofs.lemmas.Bool.{false≢true}
use Rattle.std.proofs.lemmas.Int.{ints}
use Rattle.cp_counted.specs.declared.key.Key.{Key}
use Rattle.cp_counted.specs.Keys.{keys_agree}
use Rattle.cp_keyed.specs.Search.{is_after}
use Rattle.cp_keyed.specs.Index.{AreAbove, AreAscending, IsRight, AreRight, is_among, is_tried, row_at, tried}

less_apart : (p q : ℤ) → int_lt p q ≡ true → int_eq p q ≡ false
less_apart p q h = grind (arith, ints)

more_apart : (p q : ℤ) → int_lt p q ≡ true → int_eq q p ≡ false
more_apart p q h = grind (arith, ints)

tied : (p : ℤ) → int_eq p p ≡ true
tied p = ap is_eq (tied_itself int_cmp_total p)

pub by_false : (b : Bool) → (b ≡ true → ⊥) → b ≡ false
by_false true n = absurd (n refl)
by_false false n = refl

module _ {T : Type 0} (key : T → Key) (f : ℤ × T → Bool) where
  -- the spots of the rows that pass a test
  abbrev pub spots_in : List (ℤ × T) → List (Key × ℤ)
  spots_in [] = []
  spots_in (e ∷ es) = cond (f e) ((key e.1, e.0) ∷ spots_in es) (spots_in es)

  -- a number in front of all rows is none of theirs
  none_before : (p : ℤ) (es : List (ℤ × T)) → AreAbove p es → is_among (spots_in es) p ≡ false
  none_before p [] h = refl
  none_before p (e ∷ es) h = by_test (f e) (none_before p es h.1)
    where
      by_test : (b : Bool) → is_among (spots_in es) p ≡ false → is_among (cond b ((key e.1, e.0) ∷ spots_in es) (spots_in es)) p ≡ false
      by_test true r = ap (λ b. b || is_among (spots_in es) p) (more_apart p e.0 h.0) ∙ r
      by_test false r = r

  -- one spot more in front, of a row that lies before all others
  same_behind : (s : Key × ℤ) (spots : List (Key × ℤ)) (es : List (ℤ × T)) → AreAbove s.1 es
      → filter (λ (e : ℤ × T). not (is_among (s ∷ spots) e.0)) es ≡ filter (λ (e : ℤ × T). not (is_among spots e.0)) es
  same_behind s spots [] h = refl
  same_behind s spots (e ∷ es) h =
      ap (λ b. cond (not (b || is_among spots e.0)) (e ∷ filter (λ (x : ℤ × T). not (is_among (s ∷ spots) x.0)) es) (filter (λ (x : ℤ × T). not (is_among (s ∷ spots) x.0)) es)) (less_apart s.1 e.0 h.0)
      ∙ ap (λ r. cond (not (is_among spots e.0)) (e ∷ r) r) (same_behind s spots es h.1)

  -- the rows that do not pass are left
  pub left_is : (es : List (ℤ × T)) → AreAscending es → filter (λ (e : ℤ × T). not (is_among (spots_in es) e.0)) es ≡ filter (λ (e : ℤ × T). not (f e)) es
  left_is [] h = refl
  left_is (e ∷ es) h = by_test (f e) (left_is es h.1)
    where
      by_test : (b : Bool) → filter (λ (x : ℤ × T). not (is_among (spots_in es) x.0)) es ≡ filter (λ (x : ℤ × T). not (f x)) es
          → filter (λ (x : ℤ × T). not (is_among (cond b ((key e.1, e.0) ∷ spots_in es) (spots_in es)) x.0)) (e ∷ es) ≡ cond (not b) (e ∷ filter (λ (x : ℤ × T). not (f x)) es) (filter (λ (x : ℤ × T). not (f x)) es)
      by_test true r =
          ap (λ b. cond (not (b || is_among (spots_in es) e.0)) (e ∷ filter (λ (x : ℤ × T). not (is_among ((key e.1, e.0) ∷ spots_in es) x.0)) es) (filter (λ (x : ℤ × T). not (is_among ((key e.1, e.0) ∷ spots_in es) x.0)) es)) (tied e.0)
          ∙ (same_behind (key e.1, e.0) (spots_in es) es h.0 ∙ r)
      by_test false r =
          ap (λ b. cond (not b) (e ∷ filter (λ (x : ℤ × T). not (is_among (spots_in es) x.0)) es) (filter (λ (x : ℤ × T). not (is_among (spots_in es) x.0)) es)) (none_before e.0 es h.0)
          ∙ ap (λ y. e ∷ y) r

  -- the spots of a part of the rows, gathered with what remains
  pub spots_head : (e : ℤ × T) (es : List (ℤ × T)) (spots : List (Key × ℤ)) → spots ++ spots_in (e ∷ es) ≡ cond (f e) (spots ++ (key e.1, e.0) ∷ []) spots ++ spots_in es
  spots_head e es spots = by_test (f e)
    where
      joined : (xs : List (Key × ℤ)) (s : Key × ℤ) (ys : List (Key × ℤ)) → xs ++ s ∷ ys ≡ (xs ++ s ∷ []) ++ ys
      joined [] s ys = refl
      joined (x ∷ xs) s ys = ap (λ r. x ∷ r) (joined xs s ys)

      by_test : (b : Bool) → spots ++ cond b ((key e.1, e.0) ∷ spots_in es) (spots_in es) ≡ cond b (spots ++ (key e.1, e.0) ∷ []) spots ++ spots_in es
      by_test true = joined spots (key e.1, e.0) (spots_in es)
      by_test false = refl

  -- the row of a spot behind the first row
  row_behind : (e : ℤ × T) (es : List (ℤ × T)) (q : ℤ) → int_lt e.0 q ≡ true → row_at q (e ∷ es) ≡ row_at q es
  row_behind e es q h = ap (λ b. cond b (Some e.1) (row_at q es)) (more_apart e.0 q h)

  -- the spots are right of rows to which a first one is added
  right_more : (e : ℤ × T) (es part : List (ℤ × T)) → AreAbove e.0 part → AreRight key es (spots_in part) → AreRight key (e ∷ es) (spots_in part)
  right_more e es [] h r = tt
  right_more e es (x ∷ part) h r = by_test (f x) (right_more e es part h.1) r
    where
      by_test : (b : Bool) → (AreRight key es (spots_in part) → AreRight key (e ∷ es) (spots_in part)) → AreRight key es (cond b ((key x.1, x.0) ∷ spots_in part) (spots_in part)) → AreRight key (e ∷ es) (cond b ((key x.1, x.0) ∷ spots_in part) (spots_in part))
      by_test true l s = ((λ t q. s.0 t (sym (row_behind e es x.0 h.0) ∙ q)), l s.1)
      by_test false l s = l s

  pub right_of : (es : List (ℤ × T)) → AreAscending es → AreRight key es (spots_in es)
  right_of [] h = tt
  right_of (e ∷ es) h = by_test (f e) (right_more e es es h.0 (right_of es h.1))
    where
      here : IsRight key (e ∷ es) (key e.1, e.0)
      here t q =
          let z : Some e.1 ≡ Some t = sym (ap (λ b. cond b (Some e.1) (row_at e.0 es)) (tied e.0)) ∙ q in
          let y : e.1 ≡ t = cc in
          ap key (sym y)

      by_test : (b : Bool) → AreRight key (e ∷ es) (spots_in es) → AreRight key (e ∷ es) (cond b ((key e.1, e.0) ∷ spots_in es) (spots_in es))
      by_test true r = (here, r)
      by_test false r = r

  -- only rows that are tried pass
  pub spots_tried : (k : Key) (rows : List (ℤ × T)) → ((e : ℤ × T) → f e ≡ true → keys_agree k (key e.1) ≡ true) → spots_in (tried key k None rows) ≡ spots_in rows
  spots_tried k [] h = refl
  spots_tried k (e ∷ rows) h = by_test (keys_agree k (key e.1)) (spots_tried k rows h) (h e)
    where
      by_test : (t : Bool) → spots_in (tried key k None rows) ≡ spots_in rows → (f e ≡ true → t ≡ true) → spots_in (cond t (e ∷ tried key k None rows) (tried key k None rows)) ≡ cond (f e) ((key e.1, e.0) ∷ spots_in rows) (spots_in rows)
      by_test true l n = ap (λ r. cond (f e) ((key e.1, e.0) ∷ r) r) l
      by_test false l n = l ∙ sym (ap (λ b. cond b ((key e.1, e.0) ∷ spots_in rows) (spots_in rows)) (by_false (f e) (λ u. false≢true (n u))))

  pub spots_length : (es : List (ℤ × T)) → length (spots_in es) ≡ length (filter f es)
  spots_length [] = refl
  spots_length (e ∷ es) = by_test (f e) (spots_length es)
    where
      by_test : (b : Bool) → length (spots_in es) ≡ length (filter f es) → length (cond b ((key e.1, e.0) ∷ spots_in es) (spots_in es)) ≡ length (cond b (e ∷ filter f es) (filter f es))
      by_test true l = ap (λ n. suc n) l
      by_test false l = l

-- a filter on what a map gives
pub filter_map_is : {A B : Type 0} (h : A → B) (g : B → Bool) (xs : List A) → filter g (map h xs) ≡ map h (filter (λ x. g (h x)) xs)
filter_map_is h g [] = refl
filter_map_is {A} {B} h g (x ∷ xs) = by_test (g (h x)) (filter_map_is h g xs)
  where
    by_test : (b : Bool) → filter g (map h xs) ≡ map h (filter (λ (y : A). g (h y)) xs) → cond b (h x ∷ filter g (map h xs)) (filter g (map h xs)) ≡ map h (cond b (x ∷ filter (λ (y : A). g (h y)) xs) (filter (λ (y : A). g (h y)) xs))
    by_test true l = ap (λ r. h x ∷ r) l
    by_test false l = l

module _ {T : Type 0} where
  -- a row that is left by a filter lies above what all lie above
  above_left : (g : ℤ × T → Bool) (p : ℤ) (es r : List (ℤ × T)) (e : ℤ × T) → AreAbove p es → filter g es ≡ e ∷ r → int_lt p e.0 ≡ true
  above_left g p [] r e h q = cc
  above_left g p (x ∷ es) r e h q = by_test (g x) (above_left g p es r e h.1) q
    where
      by_test : (b : Bool) → (filter g es ≡ e ∷ r → int_lt p e.0 ≡ true) → cond b (x ∷ filter g es) (filter g es) ≡ e ∷ r → int_lt p e.0 ≡ true
      by_test true l q = let z : x ≡ e = cc in subst (λ (y : ℤ × T). int_lt p y.0 ≡ true) z h.0
      by_test false l q = l q

  -- the first row that a filter leaves is the row with its number
  pub row_of_first : (g : ℤ × T → Bool) (es r : List (ℤ × T)) (e : ℤ × T) → AreAscending es → filter g es ≡ e ∷ r → row_at e.0 es ≡ Some e.1
  row_of_first g [] r e h q = cc
  row_of_first g (x ∷ es) r e h q = by_test (g x) (row_of_first g es r e h.1) q
    where
      by_test : (b : Bool) → (filter g es ≡ e ∷ r → row_at e.0 es ≡ Some e.1) → cond b (x ∷ filter g es) (filter g es) ≡ e ∷ r → cond (int_eq e.0 x.0) (Some x.1) (row_at e.0 es) ≡ Some e.1
      by_test true l q =
          let z : x ≡ e = cc in
          subst (λ (y : ℤ × T). cond (int_eq y.0 x.0) (Some x.1) (row_at y.0 es) ≡ Some y.1) z (ap (λ b. cond b (Some x.1) (row_at x.0 es)) (tied x.0))
      by_test false l q = ap (λ b. cond b (Some x.1) (row_at e.0 es)) (more_apart x.0 e.0 (above_left g x.0 es r e h.0 q)) ∙ l q

module _ {T : Type 0} where
  -- the first row that a filter leaves passes
  pub first_passes : (g : ℤ × T → Bool) (es r : List (ℤ × T)) (e : ℤ × T) → filter g es ≡ e ∷ r → g e ≡ true
  first_passes g [] r e q = cc
  first_passes g (x ∷ es) r e q = by_test (g x) refl (first_passes g es r e) q
    where
      by_test : (b : Bool) → g x ≡ b → (filter g es ≡ e ∷ r → g e ≡ true) → cond b (x ∷ filter g es) (filter g es) ≡ e ∷ r → g e ≡ true
      by_test true p l q = let z : x ≡ e = cc in subst (λ (y : ℤ × T). g y ≡ true) z p
      by_test false p l q = l q

pub second : (a b : Bool) → (a && b) ≡ true → b ≡ true
second true b h = h
second false b h = absurd (false≢true h)

-- The rows that are tried, one after another: the least row above the cursor whose key agrees is the first of them.
module _ {T : Type 0} (key : T → Key) (given k : Key) (whole rows : List (ℤ × T)) (is : given ≡ k) (same : whole ≡ rows) where
  pub next_tried : (cursor : Option ℤ) (place q : ℤ) (t : T) → q ≡ place → tried key given cursor whole ≡ (place, t) ∷ tried key given (Some place) whole
      → tried key k cursor rows ≡ (q, t) ∷ tried key k (Some q) rows
  next_tried cursor place q t e h = subst (λ (p : ℤ). tried key k cursor rows ≡ (p, t) ∷ tried key k (Some p) rows) (sym e)
      (subst (λ (j : Key). tried key j cursor rows ≡ (place, t) ∷ tried key j (Some place) rows) is
      (subst (λ (r : List (ℤ × T)). tried key given cursor r ≡ (place, t) ∷ tried key given (Some place) r) same h))

  pub none_tried : (cursor : Option ℤ) → tried key given cursor whole ≡ [] → tried key k cursor rows ≡ []
  none_tried cursor h = subst (λ (j : Key). tried key j cursor rows ≡ []) is (subst (λ (r : List (ℤ × T)). tried key given cursor r ≡ []) same h)

  pub row_tried : (cursor : Option ℤ) (q : ℤ) (t : T) → AreAscending whole → tried key k cursor rows ≡ (q, t) ∷ tried key k (Some q) rows → row_at q rows ≡ Some t
  row_tried cursor q t asc h = row_of_first (is_tried key k cursor) rows (tried key k (Some q) rows) (q, t) (subst AreAscending same asc) h

  pub agrees_tried : (cursor : Option ℤ) (q : ℤ) (t : T) (r : List (ℤ × T)) → tried key k cursor rows ≡ (q, t) ∷ r → keys_agree k (key t) ≡ true
  agrees_tried cursor q t r h = second (is_after cursor q) (keys_agree k (key t)) (first_passes (is_tried key k cursor) rows r (q, t) h)

append_none : {A : Type 0} (xs : List A) → xs ++ [] ≡ xs
append_none [] = refl
append_none (x ∷ xs) = ap (λ r. x ∷ r) (append_none xs)

-- the spots that are gathered from the rows that are tried
module _ {T : Type 0} (key : T → Key) (f : ℤ × T → Bool) (all : List (Key × ℤ)) where
  module _ (now rest : List (ℤ × T)) (e : ℤ × T) (first : now ≡ e ∷ rest) where
    head : (spots : List (Key × ℤ)) → all ≡ spots ++ spots_in key f now → all ≡ cond (f e) (spots ++ (key e.1, e.0) ∷ []) spots ++ spots_in key f rest
    head spots h = h ∙ (ap (λ r. spots ++ spots_in key f r) first ∙ spots_head key f e rest spots)

    pub gathers : (spots more : List (Key × ℤ)) (s : Key × ℤ) → all ≡ spots ++ spots_in key f now → f e ≡ true → s ≡ (key e.1, e.0) → more ≡ spots ++ s ∷ []
        → all ≡ more ++ spots_in key f rest
    gathers spots more s h u is m = head spots h ∙ (ap (λ b. cond b (spots ++ (key e.1, e.0) ∷ []) spots ++ spots_in key f rest) u
        ∙ ap (λ r. r ++ spots_in key f rest) (sym (m ∙ ap (λ x. spots ++ x ∷ []) is)))

    pub passes : (spots : List (Key × ℤ)) → all ≡ spots ++ spots_in key f now → f e ≡ false → all ≡ spots ++ spots_in key f rest
    passes spots h u = head spots h ∙ ap (λ b. cond b (spots ++ (key e.1, e.0) ∷ []) spots ++ spots_in key f rest) u

  pub gathered_all : (now : List (ℤ × T)) (spots : List (Key × ℤ)) → all ≡ spots ++ spots_in key f now → now ≡ [] → spots ≡ all
  gathered_all now spots h e = sym (h ∙ (ap (λ r. spots ++ spots_in key f r) e ∙ append_none spots))

-- one row fewer is left, and one step more was counted
module _ {T : Type 0} (now rest : List (ℤ × T)) (e : ℤ × T) (first : now ≡ e ∷ rest) where
  pub fewer : length now ≡ suc (length rest)
  fewer = ap length first

  pub counts : (n m k : ℕ) → k ≡ n + 1 → n + length now ≤ m → k + length rest ≤ m
  counts n m k is h = omega (arith, is, h, fewer)

pub fewest : (n t m : ℕ) → n + t ≤ m → n ≤ m
fewest n t m h = omega (arith, h)
