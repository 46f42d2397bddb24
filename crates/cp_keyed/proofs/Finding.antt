-- The first row that is tried, by its number.
use Rattle.std.proofs.Common.{◌≡◌, ℕ, zero, suc, Bool, true, false, not, ◌&&◌, ◌||◌, cond, List, [], ◌∷◌, Option, Some, None, refl, sym, ◌∙◌, ap, subst, arith}
use Rattle.std.specs.Prelude.{ℤ, ◌≤ℤ◌, int_lt, is_some, slice_get, find, MatchOption}
use Rattle.std.specs.Ordering.{int_cmp, int_eq, is_eq}
use Rattle.std.specs.Map.{lookup}
use Rattle.std.specs.BTreeMap.{BTreeMap, get, is_at}
use Rattle.std.specs.BTreeSet.{BTreeSet}
use Rattle.cp_keyed.specs.Spots.{stands_at}
use Rattle.std.proofs.lemmas.Bool.{false≢true}
use Rattle.std.proofs.lemmas.Int.{ints}
use Rattle.std.proofs.lemmas.Map.Entries.{place_from_lookup}
use Rattle.cp_counted.specs.declared.key.Key.{Key}
use Rattle.cp_counted.specs.declared.key.Key.TheVariants as k
use Rattle.std.specs.Cmp.{both_ways}
use Rattle.cp_counted.specs.Keys.{key_eq, keys_agree, key_eq-Decides, key_eq-true}
use Rattle.cp_keyed.specs.Search.{is_after, IsLeastAfter}
use Rattle.cp_keyed.specs.Index.{AreAscending, AreAbove, row_at, is_tried, tried, has_key, has_agreeing, IsIndexed}
use Rattle.cp_keyed.proofs.Rows.{above_at, tied, same_number, more_apart, less_less}
use Rattle.cp_keyed.proofs.Searching.{by_false}

-- the same test in other words
pub least_same : (f g : ℤ → Bool) (after number : Option ℤ) → ((q : ℤ) → f q ≡ g q) → IsLeastAfter f after number → IsLeastAfter g after number
least_same f g after None e h = λ q s. h q (e q ∙ s)
least_same f g after (Some p) e h = (sym (e p) ∙ h.0, h.1, λ q s a. h.2 q (e q ∙ s) a)

key_back : (a b : Key) → key_eq a b ≡ key_eq b a
key_back a b = both_ways (key_eq a b) (key_eq b a) (λ e. (key_eq-Decides b a).1 (sym (key_eq-true a b e))) (λ e. (key_eq-Decides a b).1 (sym (key_eq-true b a e)))

either : (a b : Key) → (b ≡ k.Missing → ⊥) → (key_eq a k.Missing || key_eq a b) ≡ keys_agree b a
either a k.Missing n = absurd (n refl)
either k.Missing (k.Int j) n = refl
either k.Missing (k.Atom b) n = refl
either k.Missing (k.Func g j) n = refl
either (k.Int i) (k.Int j) n = key_back (k.Int i) (k.Int j)
either (k.Int i) (k.Atom b) n = refl
either (k.Int i) (k.Func g j) n = refl
either (k.Atom a) (k.Int j) n = refl
either (k.Atom a) (k.Atom b) n = key_back (k.Atom a) (k.Atom b)
either (k.Atom a) (k.Func g j) n = refl
either (k.Func f i) (k.Int j) n = refl
either (k.Func f i) (k.Atom b) n = refl
either (k.Func f i) (k.Func g j) n = key_back (k.Func f i) (k.Func g j)

not_less : (p q : ℤ) → p ≤ℤ q → int_lt q p ≡ true → ⊥
not_less p q h s = grind (arith, ints)

tried_parts : (a b : Bool) → (a && b) ≡ true → (a ≡ true) × (b ≡ true)
tried_parts true true h = (refl, refl)
tried_parts true false h = absurd (false≢true h)
tried_parts false b h = absurd (false≢true h)

not_itself : (p : ℤ) → int_lt p p ≡ false
not_itself p = grind (arith, ints)

not_back : (p q : ℤ) → int_lt p q ≡ true → int_lt q p ≡ false
not_back p q h = grind (arith, ints)

after_more : (after : Option ℤ) (p q : ℤ) → is_after after p ≡ true → int_lt p q ≡ true → is_after after q ≡ true
after_more None p q a h = refl
after_more (Some c) p q a h = less_less c p q a h

module _ {T : Type 0} where
  found_above : (f : ℤ × T → Bool) (p : ℤ) (es : List (ℤ × T)) (e : ℤ × T) → AreAbove p es → find f es ≡ Some e → int_lt p e.0 ≡ true
  found_above f p [] e h s = cc
  found_above f p (x ∷ es) e h s = by_test (f x) (found_above f p es e h.1) s
    where
      by_test : (t : Bool) → (find f es ≡ Some e → int_lt p e.0 ≡ true) → cond t (Some x) (find f es) ≡ Some e → int_lt p e.0 ≡ true
      by_test true r s = let z : x ≡ e = cc in subst (λ (y : ℤ × T). int_lt p y.0 ≡ true) z h.0
      by_test false r s = r s

  find_none : (f : ℤ × T → Bool) (es : List (ℤ × T)) → ((i : ℕ) (e : ℤ × T) → slice_get es i ≡ Some e → f e ≡ false) → find f es ≡ None
  find_none f [] h = refl
  find_none f (e ∷ es) h = rw (h zero e refl) (find_none f es (λ i x s. h (suc i) x s))

  -- the row with the number of a place
  pub row_of : (es : List (ℤ × T)) (i : ℕ) (e : ℤ × T) → AreAscending es → slice_get es i ≡ Some e → row_at e.0 es ≡ Some e.1
  row_of [] i e h s = cc
  row_of (x ∷ es) zero e h s = let z : x ≡ e = cc in subst (λ (y : ℤ × T). row_at y.0 (x ∷ es) ≡ Some y.1) z (rw (tied x.0) refl)
  row_of (x ∷ es) (suc i) e h s = rw (more_apart x.0 e.0 (above_at x.0 es i e h.0 s)) (row_of es i e h.1 s)

  by_head : (b : Bool) (f : ℤ × T → Bool) (e x : ℤ × T) (es : List (ℤ × T)) → f e ≡ b → (f e ≡ true → ⊥) → find f es ≡ Some x → cond b (Some e) (find f es) ≡ Some x
  by_head true f e x es s n h = absurd (n s)
  by_head false f e x es s n h = h

  find_at : (f : ℤ × T → Bool) (es : List (ℤ × T)) (i : ℕ) (x : ℤ × T) → AreAscending es → slice_get es i ≡ Some x → f x ≡ true
      → ((j : ℕ) (e : ℤ × T) → slice_get es j ≡ Some e → f e ≡ true → x.0 ≤ℤ e.0) → find f es ≡ Some x
  find_at f [] i x h s t least = cc
  find_at f (e ∷ es) zero x h s t least = let z : e ≡ x = cc in subst (λ (y : ℤ × T). find f (e ∷ es) ≡ Some y) z (rw (subst (λ (y : ℤ × T). f y ≡ true) (sym z) t) refl)
  find_at f (e ∷ es) (suc i) x h s t least =
      by_head (f e) f e x es refl (λ u. not_less x.0 e.0 (least zero e refl u) (above_at e.0 es i x h.0 s)) (find_at f es i x h.1 s t (λ j y. least (suc j) y))

module _ {T : Type 0} (key : T → Key) where
  pub by_missing : (o : Option T) → is_some o ≡ has_agreeing key o k.Missing
  by_missing None = refl
  by_missing (Some t) = refl

  pub by_either : (o : Option T) (b : Key) → (b ≡ k.Missing → ⊥) → (has_key key o k.Missing || has_key key o b) ≡ has_agreeing key o b
  by_either None b n = refl
  by_either (Some t) b n = either (key t) b n

  module _ (es : List (ℤ × T)) (asc : AreAscending es) (b : Key) (after : Option ℤ) where
    agrees_of : (i : ℕ) (e : ℤ × T) → slice_get es i ≡ Some e → is_tried key b after e ≡ true → (has_agreeing key (row_at e.0 es) b ≡ true) × (is_after after e.0 ≡ true)
    agrees_of i e s t =
        let p = tried_parts (is_after after e.0) (keys_agree b (key e.1)) t in
        (ap (λ o. has_agreeing key o b) (row_of es i e asc s) ∙ p.1, p.0)

    pub none_tried : IsLeastAfter (λ q. has_agreeing key (row_at q es) b) after None → find (is_tried key b after) es ≡ None
    none_tried h = find_none (is_tried key b after) es (λ i e s. by_false (is_tried key b after e) (λ t.
        let a = agrees_of i e s t in false≢true (sym (h e.0 a.0) ∙ a.1)))

    pub one_tried : (p : ℤ) (t : T) → IsLeastAfter (λ q. has_agreeing key (row_at q es) b) after (Some p) → row_at p es ≡ Some t → find (is_tried key b after) es ≡ Some (p, t)
    one_tried p t h r =
        let at = place_from_lookup (is_at (int_cmp p)) es t r in
        let same : at.1 ≡ p = sym (same_number p at.1 at.3) in
        let agrees : keys_agree b (key t) ≡ true = sym (ap (λ o. has_agreeing key o b) r) ∙ h.0 in
        find_at (is_tried key b after) es at.0 (p, t) asc (subst (λ q. slice_get es at.0 ≡ Some (q, t)) same at.2) (rw (h.1) agrees)
        (λ j e s u. let a = agrees_of j e s u in h.2 e.0 a.0 a.1)

  -- one row after another
  module _ (b : Key) where
    same_head : (a c d : Bool) (x : ℤ × T) (F G : List (ℤ × T)) → a ≡ true → c ≡ true → F ≡ G → cond (a && d) (x ∷ F) F ≡ cond (c && d) (x ∷ G) G
    same_head true true d x F G s t h = ap (λ y. cond d (x ∷ y) y) h
    same_head true false d x F G s t h = absurd (false≢true t)
    same_head false c d x F G s t h = absurd (false≢true s)

    skipped : (a d : Bool) (x : ℤ × T) (F : List (ℤ × T)) → a ≡ false → cond (a && d) (x ∷ F) F ≡ F
    skipped false d x F h = refl
    skipped true d x F h = absurd (false≢true (sym h))

    same_behind : (after : Option ℤ) (p : ℤ) (es : List (ℤ × T)) → is_after after p ≡ true → AreAbove p es → tried key b after es ≡ tried key b (Some p) es
    same_behind after p [] a h = refl
    same_behind after p (x ∷ es) a h = same_head (is_after after x.0) (int_lt p x.0) (keys_agree b (key x.1)) x (tried key b after es) (tried key b (Some p) es)
        (after_more after p x.0 a h.0) h.0 (same_behind after p es a h.1)

    pub no_tried : (after : Option ℤ) (es : List (ℤ × T)) → find (is_tried key b after) es ≡ None → tried key b after es ≡ []
    no_tried after [] h = refl
    no_tried after (x ∷ es) h = by_test (is_tried key b after x) (no_tried after es) h
      where
        by_test : (t : Bool) → (find (is_tried key b after) es ≡ None → tried key b after es ≡ []) → cond t (Some x) (find (is_tried key b after) es) ≡ None → cond t (x ∷ tried key b after es) (tried key b after es) ≡ []
        by_test true r s = cc
        by_test false r s = r s

    pub next_tried : (after : Option ℤ) (es : List (ℤ × T)) (e : ℤ × T) → AreAscending es → find (is_tried key b after) es ≡ Some e
        → tried key b after es ≡ e ∷ tried key b (Some e.0) es
    next_tried after [] e asc s = cc
    next_tried after (x ∷ es) e asc s = by_test (is_tried key b after x) refl (next_tried after es e asc.1) s
      where
        by_test : (t : Bool) → is_tried key b after x ≡ t → (find (is_tried key b after) es ≡ Some e → tried key b after es ≡ e ∷ tried key b (Some e.0) es) → cond t (Some x) (find (is_tried key b after) es) ≡ Some e
            → cond t (x ∷ tried key b after es) (tried key b after es) ≡ e ∷ tried key b (Some e.0) (x ∷ es)
        by_test true q r s =
            let z : x ≡ e = cc in
            subst (λ (y : ℤ × T). (x ∷ tried key b after es) ≡ (y ∷ tried key b (Some y.0) (x ∷ es))) z
            (ap (λ y. x ∷ y) (same_behind after x.0 es (tried_parts (is_after after x.0) (keys_agree b (key x.1)) q).0 asc.0
            ∙ sym (skipped (int_lt x.0 x.0) (keys_agree b (key x.1)) x (tried key b (Some x.0) es) (not_itself x.0))))
        by_test false q r s = r s
            ∙ ap (λ y. e ∷ y) (sym (skipped (int_lt e.0 x.0) (keys_agree b (key x.1)) x (tried key b (Some e.0) es)
            (not_back x.0 e.0 (found_above (is_tried key b after) x.0 es e asc.0 s))))

  -- the row with the least number is the first that is tried
  pub tried_found : (es : List (ℤ × T)) (b : Key) (after : Option ℤ) (p n : ℤ) (t : T) → AreAscending es → p ≡ n → IsLeastAfter (λ q. has_agreeing key (row_at q es) b) after (Some n)
      → row_at n es ≡ Some t → tried key b after es ≡ (p, t) ∷ tried key b (Some p) es
  tried_found es b after p n t asc e h r = subst (λ (x : ℤ). tried key b after es ≡ (x, t) ∷ tried key b (Some x) es) (sym e) (next_tried b after es (n, t) asc (one_tried es asc b after n t h r))

  -- the least number by the spots
  pub by_spots : (rows : BTreeMap ℤ T) (spots : BTreeSet (Key × ℤ)) (b : Key) (after number : Option ℤ) → IsIndexed key rows spots → (b ≡ k.Missing → ⊥)
      → IsLeastAfter (λ q. stands_at spots k.Missing q || stands_at spots b q) after number → IsLeastAfter (λ q. has_agreeing key (get int_cmp rows q) b) after number
  by_spots rows spots b after number x n h = least_same (λ q. stands_at spots k.Missing q || stands_at spots b q) (λ q. has_agreeing key (get int_cmp rows q) b) after number
      (λ q. ap (λ y. y || stands_at spots b q) (x.spots_are k.Missing q) ∙ (ap (λ y. has_key key (get int_cmp rows q) k.Missing || y) (x.spots_are b q) ∙ by_either (get int_cmp rows q) b n)) h

  -- a number that is found has a row
  pub has_row : (o : Option T) (b : Key) → has_agreeing key o b ≡ true → o ≡ None → ⊥
  has_row None b h e = false≢true h
  has_row (Some t) b h e = cc
