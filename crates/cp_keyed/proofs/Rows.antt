-- Rows whose numbers ascend.
use Rattle.std.proofs.Common.{◌≡◌, ℕ, zero, suc, ◌+◌, ◌<◌, Bool, true, false, not, ◌&&◌, ◌||◌, cond, length, take, get_or, List, [], ◌∷◌, ◌++◌, filter, Option, Some, None, refl, sym, ◌∙◌, ap, subst, arith}
use Rattle.std.specs.Prelude.{ℤ, ◌≤ℤ◌, int_lt, is_some, slice_get}
use Rattle.std.specs.declared.cmp.Ordering.{Ordering}
use Rattle.std.specs.declared.cmp.Ordering.TheVariants.{Less, Equal, Greater}
use Rattle.std.specs.Ordering.{ordering_then, int_cmp, int_eq, is_eq, is_lt, match_ordering}
use Rattle.std.specs.Cmp.{tied_itself, int_cmp_total}
use Rattle.std.specs.List.{All, AllByRecursion}
use Rattle.std.specs.List.Sorted.{IsStrictlySortedBy}
use Rattle.std.specs.Map.{lookup, keys_of, remove_entry}
use Rattle.std.specs.BTreeMap.{is_at, insert_entry}
use Rattle.std.proofs.lemmas.Bool.{false≢true}
use Rattle.std.proofs.lemmas.List.{take_more}
use Rattle.std.proofs.lemmas.Int.{ints}
use Rattle.std.proofs.lemmas.Map.Keys.{sorted_head, sorted_tail}
use Rattle.cp_keyed.proofs.Searching.{less_is}
use Rattle.cp_counted.specs.declared.key.Key.{Key}
use Rattle.cp_keyed.specs.Index.{AreAbove, AreAscending, AreBelow, is_among, row_at, without}

pub less_apart : (p q : ℤ) → int_lt p q ≡ true → int_eq p q ≡ false
less_apart p q h = grind (arith, ints)

pub more_apart : (p q : ℤ) → int_lt p q ≡ true → int_eq q p ≡ false
more_apart p q h = grind (arith, ints)

pub less_less : (p q r : ℤ) → int_lt p q ≡ true → int_lt q r ≡ true → int_lt p r ≡ true
less_less p q r h k = grind (arith, ints)

pub same_number : (p q : ℤ) → int_eq p q ≡ true → p ≡ q
same_number p q h = grind (arith, ints)

pub tied : (p : ℤ) → int_eq p p ≡ true
tied p = ap is_eq (tied_itself int_cmp_total p)

more_from : (p q : ℤ) → int_lt q p ≡ true → int_cmp p q ≡ Greater
more_from p q s = grind (arith, ints)

less_from_true : (p q : ℤ) → int_lt p q ≡ true → int_cmp p q ≡ Less
less_from_true p q s = rw s refl

not_less_is : (p q : ℤ) → is_lt (int_cmp p q) ≡ false → int_lt p q ≡ false
not_less_is p q h = grind (arith, ints)

at_most_less : (p last q : ℤ) → int_lt last p ≡ false → int_lt last q ≡ true → int_lt p q ≡ true
at_most_less p last q h k = grind (arith, ints)

module _ {T : Type 0} where
  above_from : (p : ℤ) (es : List (ℤ × T)) → AllByRecursion (λ y. int_cmp p y ≡ Less) (keys_of es) → AreAbove p es
  above_from p [] h = tt
  above_from p (e ∷ es) h = (less_is p e.0 h.0, above_from p es h.1)

  pub ascending_from : (es : List (ℤ × T)) → IsStrictlySortedBy int_cmp (keys_of es) → AreAscending es
  ascending_from [] h = tt
  ascending_from (e ∷ es) h = (above_from e.0 es (sorted_head int_cmp e.0 (keys_of es) h), ascending_from es (sorted_tail int_cmp e.0 (keys_of es) h))

  -- a filter that every row passes
  pub keeps_all : (f : ℤ × T → Bool) (es : List (ℤ × T)) → ((i : ℕ) (e : ℤ × T) → slice_get es i ≡ Some e → f e ≡ true) → filter f es ≡ es
  keeps_all f [] h = refl
  keeps_all f (e ∷ es) h = rw (h zero e refl) (ap (λ r. e ∷ r) (keeps_all f es (λ i x s. h (suc i) x s)))

  pub above_at : (p : ℤ) (es : List (ℤ × T)) (i : ℕ) (e : ℤ × T) → AreAbove p es → slice_get es i ≡ Some e → int_lt p e.0 ≡ true
  above_at p [] i e h s = cc
  above_at p (x ∷ es) zero e h s = let z : x ≡ e = cc in subst (λ (y : ℤ × T). int_lt p y.0 ≡ true) z h.0
  above_at p (x ∷ es) (suc i) e h s = above_at p es i e h.1 s

  -- all above a number
  pub without_above : (p : ℤ) (es : List (ℤ × T)) → AreAbove p es → without p es ≡ es
  without_above p es h = keeps_all (λ (e : ℤ × T). not (int_eq p e.0)) es (λ i e s. ap not (less_apart p e.0 (above_at p es i e h s)))

  by_removed : (b : Bool) (p : ℤ) (e : ℤ × T) (es : List (ℤ × T)) → int_eq p e.0 ≡ b → AreAbove e.0 es → remove_entry (is_at (int_cmp p)) es ≡ without p es
      → cond b es (e ∷ remove_entry (is_at (int_cmp p)) es) ≡ cond (not b) (e ∷ without p es) (without p es)
  by_removed true p e es s h r = sym (without_above p es (subst (λ q. AreAbove q es) (sym (same_number p e.0 s)) h))
  by_removed false p e es s h r = ap (λ t. e ∷ t) r

  pub removed_is : (p : ℤ) (es : List (ℤ × T)) → AreAscending es → remove_entry (is_at (int_cmp p)) es ≡ without p es
  removed_is p [] h = refl
  removed_is p (e ∷ es) h = by_removed (int_eq p e.0) p e es refl h.0 (removed_is p es h.1)

  -- no row has the number
  missing_head : (b : Bool) (e : ℤ × T) (r : Option T) → cond b (Some e.1) r ≡ None → (b ≡ false) × (r ≡ None)
  missing_head true e r h = cc
  missing_head false e r h = (refl, h)

  pub without_missing : (p : ℤ) (es : List (ℤ × T)) → row_at p es ≡ None → without p es ≡ es
  without_missing p [] h = refl
  without_missing p (e ∷ es) h =
      let m = missing_head (int_eq p e.0) e (row_at p es) h in
      rw m.0 (ap (λ r. e ∷ r) (without_missing p es m.1))

  by_order : (o : Ordering) (p : ℤ) (t : T) (e : ℤ × T) (es : List (ℤ × T)) → int_cmp p e.0 ≡ o → is_eq o ≡ false → without p es ≡ es → without p (insert_entry int_cmp es p t) ≡ es
      → without p (match_ordering o ((p, t) ∷ e ∷ es) ((e.0, t) ∷ es) (e ∷ insert_entry int_cmp es p t)) ≡ e ∷ es
  by_order Less p t e es s n k r = rw (tied p, ap is_eq s) (ap (λ x. e ∷ x) k)
  by_order Equal p t e es s n k r = cc
  by_order Greater p t e es s n k r = rw (ap is_eq s) (ap (λ x. e ∷ x) r)

  -- a row that was inserted, taken out
  pub inserted_without : (p : ℤ) (t : T) (es : List (ℤ × T)) → row_at p es ≡ None → without p (insert_entry int_cmp es p t) ≡ es
  inserted_without p t [] h = rw (tied p) refl
  inserted_without p t (e ∷ es) h =
      let m = missing_head (int_eq p e.0) e (row_at p es) h in
      by_order (int_cmp p e.0) p t e es refl m.0 (without_missing p es m.1) (inserted_without p t es m.1)

  -- a row that is inserted in front of all others, and one behind them
  pub inserted_front : (p : ℤ) (t : T) (es : List (ℤ × T)) → AreAbove p es → insert_entry int_cmp es p t ≡ (p, t) ∷ es
  inserted_front p t [] h = refl
  inserted_front p t (e ∷ es) h = rw (less_from_true p e.0 h.0) refl

  pub inserted_back : (p : ℤ) (t : T) (es : List (ℤ × T)) → AreBelow p es → insert_entry int_cmp es p t ≡ es ++ (p, t) ∷ []
  inserted_back p t [] h = refl
  inserted_back p t (e ∷ es) h = rw (more_from p e.0 h.0) (ap (λ r. e ∷ r) (inserted_back p t es h.1))

  -- a number that no row has
  pub missing_above : (p : ℤ) (es : List (ℤ × T)) → AreAbove p es → row_at p es ≡ None
  missing_above p [] h = refl
  missing_above p (e ∷ es) h = rw (less_apart p e.0 h.0) (missing_above p es h.1)

  pub missing_below : (p : ℤ) (es : List (ℤ × T)) → AreBelow p es → row_at p es ≡ None
  missing_below p [] h = refl
  missing_below p (e ∷ es) h = rw (more_apart e.0 p h.0) (missing_below p es h.1)

-- one spot more
or_false : (b : Bool) → (b || false) ≡ b
or_false true = refl
or_false false = refl

or_more : (a b c d : Bool) → b ≡ (c || d) → (a || b) ≡ ((a || c) || d)
or_more true b c d h = refl
or_more false b c d h = h

among_push : (spots : List (Key × ℤ)) (s : Key × ℤ) (p : ℤ) → is_among (spots ++ s ∷ []) p ≡ (is_among spots p || int_eq s.1 p)
among_push [] s p = or_false (int_eq s.1 p)
among_push (x ∷ spots) s p = or_more (int_eq x.1 p) (is_among (spots ++ s ∷ []) p) (is_among spots p) (int_eq s.1 p) (among_push spots s p)

module _ {T : Type 0} where
  step_more : (s : Key × ℤ) (e : ℤ × T) (F G : List (ℤ × T)) (a b m : Bool) → without s.1 F ≡ G → m ≡ (a || b) → int_eq s.1 e.0 ≡ b
      → without s.1 (cond (not a) (e ∷ F) F) ≡ cond (not m) (e ∷ G) G
  step_more s e F G true b m r em eb = rw em r
  step_more s e F G false true m r em eb = rw (eb, em) r
  step_more s e F G false false m r em eb = rw (eb, em) (ap (λ x. e ∷ x) r)

  -- the rows but for those of these spots
  abbrev pub left_by : List (Key × ℤ) → List (ℤ × T) → List (ℤ × T)
  left_by spots es = filter (λ (e : ℤ × T). not (is_among spots e.0)) es

  pub left_by_none : (es : List (ℤ × T)) → left_by [] es ≡ es
  left_by_none [] = refl
  left_by_none (e ∷ es) = ap (λ r. e ∷ r) (left_by_none es)

  without_more : (spots : List (Key × ℤ)) (s : Key × ℤ) (es : List (ℤ × T)) → without s.1 (left_by spots es) ≡ left_by (spots ++ s ∷ []) es
  without_more spots s [] = refl
  without_more spots s (e ∷ es) = step_more s e (left_by spots es) (left_by (spots ++ s ∷ []) es) (is_among spots e.0) (int_eq s.1 e.0) (is_among (spots ++ s ∷ []) e.0)
      (without_more spots s es) (among_push spots s e.0) refl

  pub left_more : (taken : List (Key × ℤ)) (i : ℕ) (s : Key × ℤ) (es es' : List (ℤ × T)) → i < length taken → s ≡ get_or taken i s
      → es' ≡ without s.1 (left_by (take i taken) es) → es' ≡ left_by (take (i + 1) taken) es
  left_more taken i s es es' h e r = r ∙ (without_more (take i taken) s es
      ∙ ap (λ (spots : List (Key × ℤ)). left_by spots es) (sym (take_more taken i s h ∙ ap (λ x. take i taken ++ x ∷ []) (sym e))))

  -- a row that a filter leaves is a row
  above_filter : (f : ℤ × T → Bool) (p : ℤ) (es : List (ℤ × T)) → AreAbove p es → AreAbove p (filter f es)
  above_filter f p [] h = tt
  above_filter f p (e ∷ es) h = by_test (f e) (above_filter f p es h.1)
    where
      by_test : (b : Bool) → AreAbove p (filter f es) → AreAbove p (cond b (e ∷ filter f es) (filter f es))
      by_test true r = (h.0, r)
      by_test false r = r

  pub row_left : (f : ℤ × T → Bool) (p : ℤ) (t : T) (es : List (ℤ × T)) → AreAscending es → row_at p (filter f es) ≡ Some t → row_at p es ≡ Some t
  row_left f p t [] h r = r
  row_left f p t (e ∷ es) h r = by_tests (f e) (int_eq p e.0) refl (row_left f p t es h.1) r
    where
      by_tests : (a b : Bool) → int_eq p e.0 ≡ b → (row_at p (filter f es) ≡ Some t → row_at p es ≡ Some t)
          → row_at p (cond a (e ∷ filter f es) (filter f es)) ≡ Some t → cond b (Some e.1) (row_at p es) ≡ Some t
      by_tests true true s l q = rw s at q
      by_tests true false s l q = l (rw s at q)
      by_tests false true s l q = cc (missing_above p (filter f es) (above_filter f p es (subst (λ x. AreAbove x es) (sym (same_number p e.0 s)) h.0)))
      by_tests false false s l q = l q

  -- rows whose numbers are at most this one
  pub below_from : (last number : ℤ) (es : List (ℤ × T)) → int_lt last number ≡ true → All (λ q. is_lt (int_cmp last q) ≡ false) (keys_of es) → AreBelow number es
  below_from last number [] h r = tt
  below_from last number (e ∷ es) h r = (at_most_less e.0 last number (not_less_is last e.0 (r zero e.0 (omega arith))) h, below_from last number es h (λ i d l. r (suc i) d (omega (arith, l))))
