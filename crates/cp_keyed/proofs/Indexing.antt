-- The spots are those of the rows, after a row is taken out or put in.
use Rattle.std.proofs.Common.{◌≡◌, ℕ, zero, suc, ◌<◌, length, take, get_or, Bool, true, false, not, ◌&&◌, ◌||◌, cond, List, [], ◌∷◌, Option, Some, None, refl, sym, ◌∙◌, ap, subst, arith}
use Rattle.std.specs.Prelude.{ℤ, ◌≤ℤ◌, int_lt, is_some, negsuc, ◌-◌, ◌^◌, MatchOption}
use Rattle.std.specs.declared.cmp.Ordering.{Ordering}
use Rattle.std.specs.declared.cmp.Ordering.TheVariants.{Less, Equal, Greater}
use Rattle.std.specs.Ordering.{ordering_then, int_cmp, int_eq, is_eq}
use Rattle.std.specs.Map.{remove_entry}
use Rattle.std.specs.BTreeMap.{BTreeMap, get, is_at, IsOrdered}
use Rattle.std.specs.BTreeSet.{BTreeSet, contains}
use Rattle.std.proofs.lemmas.Bool.{false≢true}
use Rattle.cp_counted.specs.declared.key.Key.{Key}
use Rattle.cp_counted.specs.Keys.{key_eq, key_eq-true, key_eq-refl, keys_agree}
use Rattle.cp_counted.specs.KeyOrder.{key_cmp, key_cmp-is_eq}
use Rattle.cp_keyed.specs.Spots.{spot_cmp, stands_at}
use Rattle.cp_keyed.specs.Search.{AreFrom}
use Rattle.cp_keyed.specs.Index.{AreRight, IsIndexed, IsRight, has_key, is_among, AreAscending, row_at, without}
use Rattle.cp_keyed.proofs.Rows.{same_number, ascending_from, left_by, removed_is, row_left, tied}

is_eq_then : (a b : Ordering) → is_eq (ordering_then a b) ≡ (is_eq b && is_eq a)
is_eq_then Less Less = refl
is_eq_then Less Equal = refl
is_eq_then Less Greater = refl
is_eq_then Equal Less = refl
is_eq_then Equal Equal = refl
is_eq_then Equal Greater = refl
is_eq_then Greater Less = refl
is_eq_then Greater Equal = refl
is_eq_then Greater Greater = refl

-- whether a spot is another
spot_is : (k l : Key) (p q : ℤ) → is_eq (spot_cmp (k, p) (l, q)) ≡ (int_eq p q && key_eq k l)
spot_is k l p q = is_eq_then (key_cmp k l) (int_cmp p q) ∙ ap (λ b. int_eq p q && b) (key_cmp-is_eq k l)

-- one spot more, and one less
abbrev pub AddsSpot : BTreeSet (Key × ℤ) → BTreeSet (Key × ℤ) → Key × ℤ → Type 0
AddsSpot old new s = (q : Key × ℤ) → contains spot_cmp new q ≡ cond (is_at (spot_cmp s) q) true (contains spot_cmp old q)

abbrev pub DropsSpot : BTreeSet (Key × ℤ) → BTreeSet (Key × ℤ) → Key × ℤ → Type 0
DropsSpot old new s = (q : Key × ℤ) → contains spot_cmp new q ≡ cond (is_at (spot_cmp s) q) false (contains spot_cmp old q)

abbrev pub AddsRow : {T : Type 0} → BTreeMap ℤ T → BTreeMap ℤ T → ℤ → T → Type 0
AddsRow {T} old new p t = (q : ℤ) → get int_cmp new q ≡ cond (is_at (int_cmp p) q) (Some t) (get int_cmp old q)

module _ {T : Type 0} (key : T → Key) where
  -- one spot less
  fewer : (b c : Bool) (has : Bool) (o : Option T) (k l : Key) → key_eq k l ≡ c → has ≡ has_key key o l → (b ≡ true → (t : T) → o ≡ Some t → key t ≡ k)
      → cond (b && c) false has ≡ has_key key (cond b None o) l
  fewer false c has o k l e h r = h
  fewer true true has o k l e h r = refl
  fewer true false has None k l e h r = h
  fewer true false has (Some t) k l e h r = h ∙ (ap (λ x. key_eq x l) (r refl t refl) ∙ e)

  -- one spot more
  more : (b c : Bool) (has : Bool) (o : Option T) (t : T) (l : Key) → key_eq (key t) l ≡ c → has ≡ has_key key o l → (b ≡ true → o ≡ None)
      → cond (b && c) true has ≡ has_key key (cond b (Some t) o) l
  more false c has o t l e h r = h
  more true true has o t l e h r = sym e
  more true false has o t l e h r = (h ∙ ap (λ x. has_key key x l) (r refl)) ∙ sym e

  -- one spot more, and it again less
  neither : (b c : Bool) (has : Bool) (o : Option T) (l : Key) → has ≡ has_key key o l → (b ≡ true → o ≡ None) → cond (b && c) false (cond (b && c) true has) ≡ has_key key o l
  neither false c has o l h r = h
  neither true true has o l h r = sym (ap (λ x. has_key key x l) (r refl))
  neither true false has o l h r = h

  from_fewer : (b : Bool) (o : Option T) → is_some (cond b None o) ≡ true → is_some o ≡ true
  from_fewer true o h = absurd (false≢true h)
  from_fewer false o h = h

  from_more : (b : Bool) (low p q : ℤ) (t : T) (o : Option T) → int_eq p q ≡ b → low ≤ℤ p → (is_some o ≡ true → low ≤ℤ q) → is_some (cond b (Some t) o) ≡ true → low ≤ℤ q
  from_more true low p q t o e h r s = subst (λ x. low ≤ℤ x) (same_number p q e) h
  from_more false low p q t o e h r s = r s

  module _ (rows rows' : BTreeMap ℤ T) (spots spots' : BTreeSet (Key × ℤ)) (x : IsIndexed key rows spots) (k : Key) (p : ℤ) where
    pub taken : IsRight key rows.entries (k, p)
        → ((q : ℤ) → get int_cmp rows' q ≡ cond (is_at (int_cmp p) q) None (get int_cmp rows q))
        → ((q : Key × ℤ) → contains spot_cmp spots' q ≡ cond (is_at (spot_cmp (k, p)) q) false (contains spot_cmp spots q))
        → IsOrdered int_cmp rows'
        → IsIndexed key rows' spots'
    taken right hr hs o = record {
      spots_are = λ l q. hs (l, q) ∙ (ap (λ b. cond b false (stands_at spots l q)) (spot_is k l p q)
          ∙ (fewer (int_eq p q) (key_eq k l) (stands_at spots l q) (get int_cmp rows q) k l refl (x.spots_are l q) (λ e t s. right t (ap (λ y. get int_cmp rows y) (same_number p q e) ∙ s))
          ∙ ap (λ y. has_key key y l) (sym (hr q))));
      from = λ q s. x.from q (from_fewer (int_eq p q) (get int_cmp rows q) (ap is_some (sym (hr q)) ∙ s));
      ascending = ascending_from rows'.entries o;
    }

    put_exact : (t : T) → k ≡ key t → row_at p rows.entries ≡ None → negsuc (2 ^ 63 - 1) ≤ℤ p
        → AddsRow rows rows' p t → AddsSpot spots spots' (k, p) → IsOrdered int_cmp rows'
        → IsIndexed key rows' spots'
    put_exact t e fresh low hr hs o = record {
      spots_are = λ l q. hs (l, q) ∙ (ap (λ b. cond b true (stands_at spots l q)) (spot_is k l p q)
          ∙ (more (int_eq p q) (key_eq k l) (stands_at spots l q) (get int_cmp rows q) t l (ap (λ y. key_eq y l) (sym e)) (x.spots_are l q) (λ s. ap (λ y. get int_cmp rows y) (sym (same_number p q s)) ∙ fresh)
          ∙ ap (λ y. has_key key y l) (sym (hr q))));
      from = λ q s. from_more (int_eq p q) (negsuc (2 ^ 63 - 1)) p q t (get int_cmp rows q) refl low (x.from q) (ap is_some (sym (hr q)) ∙ s);
      ascending = ascending_from rows'.entries o;
    }

    pub put : (t : T) (s : Key × ℤ) (n : ℤ) → k ≡ key t → row_at p rows.entries ≡ None → negsuc (2 ^ 63 - 1) ≤ℤ p → s ≡ (k, p) → n ≡ p
        → AddsRow rows rows' n t → AddsSpot spots spots' s → IsOrdered int_cmp rows'
        → IsIndexed key rows' spots'
    put t s n e fresh low es en hr hs o = put_exact t e fresh low (subst (λ y. AddsRow rows rows' y t) en hr) (subst (AddsSpot spots spots') es hs) o

    undone_exact : (spots'' : BTreeSet (Key × ℤ)) → row_at p rows.entries ≡ None → rows'.entries ≡ rows.entries
        → AddsSpot spots spots' (k, p) → DropsSpot spots' spots'' (k, p)
        → IsIndexed key rows' spots''
    undone_exact spots'' fresh he hs ht = record {
      spots_are = λ l q. ht (l, q) ∙ (ap (λ y. cond (is_at (spot_cmp (k, p)) (l, q)) false y) (hs (l, q))
          ∙ (ap (λ b. cond b false (cond b true (stands_at spots l q))) (spot_is k l p q)
          ∙ (neither (int_eq p q) (key_eq k l) (stands_at spots l q) (get int_cmp rows q) l (x.spots_are l q) (λ s. ap (λ y. get int_cmp rows y) (sym (same_number p q s)) ∙ fresh)
          ∙ ap (λ es. has_key key (row_at q es) l) (sym he))));
      from = λ q s. x.from q (ap (λ es. is_some (row_at q es)) (sym he) ∙ s);
      ascending = subst AreAscending (sym he) x.ascending;
    }

    pub undone : (spots'' : BTreeSet (Key × ℤ)) (s t : Key × ℤ) → row_at p rows.entries ≡ None → s ≡ (k, p) → t ≡ (k, p) → rows'.entries ≡ rows.entries
        → AddsSpot spots spots' s → DropsSpot spots' spots'' t
        → IsIndexed key rows' spots''
    undone spots'' s t fresh es et he hs ht = undone_exact spots'' fresh he (subst (AddsSpot spots spots') es hs) (subst (DropsSpot spots' spots'') et ht)

  -- the spot of what was placed ahead is right
  pub ahead_right : (rows : BTreeMap ℤ T) (spots : BTreeSet (Key × ℤ)) (s : Key × ℤ) → IsIndexed key rows spots → stands_at spots s.0 s.1 ≡ true → IsRight key rows.entries s
  ahead_right rows spots s x a t h = key_eq-true (key t) s.0 (sym (x.spots_are s.0 s.1 ∙ ap (λ o. has_key key o s.0) h) ∙ a)

  -- a row that was put in stands
  pub stands : (rows rows' : BTreeMap ℤ T) (spots' : BTreeSet (Key × ℤ)) (s : Key × ℤ) (k : Key) (p n : ℤ) (t : T) → IsIndexed key rows' spots' → AddsRow rows rows' n t → n ≡ p → k ≡ key t → s ≡ (k, p) → stands_at spots' s.0 s.1 ≡ true
  stands rows rows' spots' s k p n t x h en ek es =
      let there : get int_cmp rows' p ≡ Some t = h p ∙ (ap (λ q. cond (int_eq q p) (Some t) (get int_cmp rows p)) en ∙ ap (λ b. cond b (Some t) (get int_cmp rows p)) (tied p)) in
      subst (λ (y : Key × ℤ). stands_at spots' y.0 y.1 ≡ true) (sym es)
      (x.spots_are k p ∙ (ap (λ o. has_key key o k) there ∙ (ap (λ y. key_eq y k) (sym ek) ∙ key_eq-refl k)))

  -- the spots are right of what is left
  right_at : (es : List (ℤ × T)) (taken : List (Key × ℤ)) (i : ℕ) (s : Key × ℤ) → AreRight key es taken → i < length taken → s ≡ get_or taken i s → IsRight key es s
  right_at es [] i s h l e = absurd (omega arith)
  right_at es (x ∷ taken) zero s h l e = subst (IsRight key es) (sym e) h.0
  right_at es (x ∷ taken) (suc i) s h l e = right_at es taken i s h.1 (omega arith) e

  pub right_left : (es : List (ℤ × T)) (taken : List (Key × ℤ)) (i : ℕ) (s : Key × ℤ) (left : List (ℤ × T)) → AreAscending es → AreRight key es taken → i < length taken → s ≡ get_or taken i s
      → left ≡ left_by (take i taken) es → IsRight key left s
  right_left es taken i s left asc h l e r = subst (λ (y : List (ℤ × T)). IsRight key y s) (sym r)
      (λ t q. right_at es taken i s h l e t (row_left (λ (x : ℤ × T). not (is_among (take i taken) x.0)) s.1 t es asc q))
