-- The first spot of a range, and the first row of one.
use Rattle.std.proofs.Common.{◌≡◌, Bool, true, false, cond, List, [], ◌∷◌, Option, Some, None, refl, sym, ◌∙◌, ap, subst, arith, ◌||◌}
use Rattle.std.specs.Prelude.{ℤ, ◌≤ℤ◌, ◌<ℤ◌, int_lt, is_some, IsSome, slice_get}
use Rattle.std.specs.declared.cmp.Ordering.{Ordering}
use Rattle.std.specs.declared.cmp.Ordering.TheVariants.{Less, Equal, Greater}
use Rattle.std.specs.declared.ops.Bound.TheVariants.{Included, Excluded, Unbounded}
use Rattle.std.specs.Ordering.{ordering_then, ordering_reverse, int_cmp, is_gt, is_le, is_lt}
use Rattle.std.specs.Cmp.{IsTotalOrder, tied_itself, int_cmp_total}
use Rattle.std.specs.BTreeMap.{BTreeMap, get}
use Rattle.std.specs.BTreeMap.Range.{IsRangeOf}
use Rattle.std.specs.BTreeSet.{BTreeSet, contains, IsKeyRangeOf}
use Rattle.std.specs.Map.Iter.{TakesFirst, deref, deref_pair}
use Rattle.std.specs.Option.{option_copied, IfSome}
use Rattle.std.specs.List.{All}
use Rattle.std.specs.Borrow.{Bor}
use Rattle.cp_counted.specs.Keys.{key_eq-Decides}
use Rattle.std.specs.Bool.{Decides}
use Rattle.std.proofs.lemmas.Bool.{false≢true}
use Rattle.std.proofs.lemmas.Int.{ints}
use Rattle.cp_counted.specs.declared.key.Key.{Key}
use Rattle.cp_counted.specs.Keys.{key_eq}
use Rattle.cp_counted.specs.KeyOrder.{key_cmp, key_cmp-total, key_cmp-exact}
use Rattle.cp_keyed.specs.Spots.{spot_cmp, stands_at}
use Rattle.cp_keyed.specs.Search.{is_after, IsLeastAfter, AreFrom, number_at}

-- numbers
pub less_is : (p q : ℤ) → int_cmp p q ≡ Less → int_lt p q ≡ true
less_is p q h = grind (arith, ints)

pub less_from : (p q : ℤ) → int_lt p q ≡ true → int_cmp p q ≡ Less
less_from p q h = rw h refl

pub not_above : (p q : ℤ) → is_gt (int_cmp p q) ≡ false → p ≤ℤ q
not_above p q h = grind (arith, ints)

pub not_above_from : (p q : ℤ) → p ≤ℤ q → is_gt (int_cmp p q) ≡ false
not_above_from p q h = grind (arith, ints)

-- the key decides first
same_key : (k : Key) (p q : ℤ) → spot_cmp (k, p) (k, q) ≡ int_cmp p q
same_key k p q = ap (λ o. ordering_then o (int_cmp p q)) (tied_itself key_cmp-total k)

then_less : (a b : Ordering) → ordering_then a b ≡ Less → (a ≡ Equal → ⊥) → a ≡ Less
then_less Less b h n = refl
then_less Equal b h n = absurd (n refl)
then_less Greater b h n = cc

then_greater : (a b : Ordering) → a ≡ Greater → is_gt (ordering_then a b) ≡ true
then_greater a b h = rw h refl

-- a spot of another key behind the cursor is behind all spots of the key
other_key : (k l : Key) (c p q : ℤ) → (k ≡ l → ⊥) → spot_cmp (k, c) (l, p) ≡ Less → is_gt (spot_cmp (l, p) (k, q)) ≡ false → ⊥
other_key k l c p q n h g =
    let less = then_less (key_cmp k l) (int_cmp c p) h (λ e. n (key_cmp-exact k l e)) in
    let turned : key_cmp l k ≡ Greater = key_cmp-total.antisymm l k ∙ ap ordering_reverse less in
    false≢true (sym g ∙ then_greater (key_cmp l k) (int_cmp p q) turned)

pub by_false : (b : Bool) → (b ≡ true → ⊥) → b ≡ false
by_false true n = absurd (n refl)
by_false false n = refl

-- the spots behind a cursor
module _ (spots : BTreeSet (Key × ℤ)) (key : Key) (after : ℤ) where
  spot_behind : (l : Key) (p : ℤ) (same : Bool) → Decides same (l ≡ key) → spot_cmp (key, after) (l, p) ≡ Less → stands_at spots l p ≡ true
      → ((q : ℤ) → int_lt after q ≡ true → stands_at spots key q ≡ true → is_gt (spot_cmp (l, p) (key, q)) ≡ false)
      → IsLeastAfter (stands_at spots key) (Some after) (cond same (Some p) None)
  spot_behind l p true d above here least =
      let e : l ≡ key = d.0 refl in (
        subst (λ k. stands_at spots k p ≡ true) e here,
        less_is after p (sym (same_key key after p) ∙ subst (λ k. spot_cmp (key, after) (k, p) ≡ Less) e above),
        λ q s a. not_above p q (ap is_gt (sym (same_key key p q)) ∙ subst (λ k. is_gt (spot_cmp (k, p) (key, q)) ≡ false) e (least q a s)),
      )
  spot_behind l p false d above here least = λ q s. by_false (int_lt after q) (λ a. other_key key l after p q (λ e. false≢true (d.1 (sym e))) above (least q a s))

  pub spots_behind : (xs t : List (Key × ℤ)) (r : Option (Bor (Key × ℤ))) → IsKeyRangeOf spot_cmp (Excluded (key, after)) Unbounded spots xs → TakesFirst deref xs r t
      → IsLeastAfter (stands_at spots key) (Some after) (number_at key (option_copied r))
  spots_behind xs t None h steps = λ q s. by_false (int_lt after q) (λ a. false≢true (sym (h.5 steps.0 (key, q) (same_key key after q ∙ less_from after q a, tt)) ∙ s))
  spots_behind xs t (Some x) h steps =
      let first = subst (λ (ys : List (Key × ℤ)). IsKeyRangeOf spot_cmp (Excluded (key, after)) Unbounded spots ys) steps h in
      spot_behind x.now.0 x.now.1 (key_eq x.now.0 key) (key_eq-Decides x.now.0 key) first.1.0.0 first.1.1
      (λ q a s. first.2 (key, q) (same_key key after q ∙ less_from after q a, tt) s)

-- the spots from a number on that none is less than
module _ (spots : BTreeSet (Key × ℤ)) (key : Key) (low : ℤ) (from : AreFrom low (stands_at spots key)) where
  from_key : (l : Key) (p q : ℤ) → (key ≡ l → ⊥) → is_gt (spot_cmp (key, low) (l, p)) ≡ false → is_gt (spot_cmp (l, p) (key, q)) ≡ false → ⊥
  from_key l p q n h g = by_key (key_cmp key l) refl h
    where
      by_key : (o : Ordering) → key_cmp key l ≡ o → is_gt (ordering_then o (int_cmp low p)) ≡ false → ⊥
      by_key Less e h =
          let turned : key_cmp l key ≡ Greater = key_cmp-total.antisymm l key ∙ ap ordering_reverse e in
          false≢true (sym g ∙ then_greater (key_cmp l key) (int_cmp p q) turned)
      by_key Equal e h = n (key_cmp-exact key l e)
      by_key Greater e h = false≢true (sym h)

  spot_from : (l : Key) (p : ℤ) (same : Bool) → Decides same (l ≡ key) → is_gt (spot_cmp (key, low) (l, p)) ≡ false → stands_at spots l p ≡ true
      → ((q : ℤ) → stands_at spots key q ≡ true → is_gt (spot_cmp (l, p) (key, q)) ≡ false)
      → IsLeastAfter (stands_at spots key) None (cond same (Some p) None)
  spot_from l p true d above here least =
      let e : l ≡ key = d.0 refl in (
        subst (λ k. stands_at spots k p ≡ true) e here,
        refl,
        λ q s a. not_above p q (ap is_gt (sym (same_key key p q)) ∙ subst (λ k. is_gt (spot_cmp (k, p) (key, q)) ≡ false) e (least q s)),
      )
  spot_from l p false d above here least = λ q s. absurd (from_key l p q (λ e. false≢true (d.1 (sym e))) above (least q s))

  within : (q : ℤ) → stands_at spots key q ≡ true → is_gt (spot_cmp (key, low) (key, q)) ≡ false
  within q s = ap is_gt (same_key key low q) ∙ not_above_from low q (from q s)

  pub spots_from : (xs t : List (Key × ℤ)) (r : Option (Bor (Key × ℤ))) → IsKeyRangeOf spot_cmp (Included (key, low)) Unbounded spots xs → TakesFirst deref xs r t
      → IsLeastAfter (stands_at spots key) None (number_at key (option_copied r))
  spots_from xs t None h steps = λ q s. absurd (false≢true (sym (h.5 steps.0 (key, q) (within q s, tt)) ∙ s))
  spots_from xs t (Some x) h steps =
      let first = subst (λ (ys : List (Key × ℤ)). IsKeyRangeOf spot_cmp (Included (key, low)) Unbounded spots ys) steps h in
      spot_from x.now.0 x.now.1 (key_eq x.now.0 key) (key_eq-Decides x.now.0 key) first.1.0.0 first.1.1
      (λ q s. first.2 (key, q) (within q s, tt) s)
