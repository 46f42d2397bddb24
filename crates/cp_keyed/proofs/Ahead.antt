-- Rows but for the one that was placed ahead.
use Rattle.std.proofs.Common.{◌≡◌, Bool, true, false, not, cond, List, [], ◌∷◌, Option, Some, None, refl, sym, ◌∙◌, ap, subst, arith}
use Rattle.std.specs.Prelude.{ℤ}
use Rattle.std.specs.Ordering.{int_cmp, int_eq}
use Rattle.std.specs.BTreeMap.{insert_entry}
use Rattle.std.proofs.lemmas.Bool.{false≢true}
use Rattle.std.proofs.lemmas.Int.{ints}
use Rattle.cp_counted.specs.declared.key.Key.{Key}
use Rattle.cp_keyed.specs.Index.{row_at, seen, stands_ahead, without}
use Rattle.cp_keyed.proofs.Rows.{inserted_without, same_number}

apart_back : (p q : ℤ) → int_eq p q ≡ false → int_eq q p ≡ false
apart_back p q h = grind (arith, ints)

module _ {T : Type 0} where
  gone : (p : ℤ) (es : List (ℤ × T)) → row_at p (without p es) ≡ None
  gone p [] = refl
  gone p (e ∷ es) = by_test (int_eq p e.0) refl (gone p es)
    where
      by_test : (b : Bool) → int_eq p e.0 ≡ b → row_at p (without p es) ≡ None → row_at p (cond (not b) (e ∷ without p es) (without p es)) ≡ None
      by_test true q r = r
      by_test false q r = ap (λ b. cond b (Some e.1) (row_at p (without p es))) q ∙ r

  stays : (p q : ℤ) (es : List (ℤ × T)) → int_eq p q ≡ false → row_at q (without p es) ≡ row_at q es
  stays p q [] h = refl
  stays p q (e ∷ es) h = by_test (int_eq p e.0) refl (stays p q es h)
    where
      by_test : (b : Bool) → int_eq p e.0 ≡ b → row_at q (without p es) ≡ row_at q es → row_at q (cond (not b) (e ∷ without p es) (without p es)) ≡ cond (int_eq q e.0) (Some e.1) (row_at q es)
      by_test true s r = r ∙ sym (ap (λ b. cond b (Some e.1) (row_at q es)) (subst (λ x. int_eq q x ≡ false) (same_number p e.0 s) (apart_back p q h)))
      by_test false s r = ap (λ y. cond (int_eq q e.0) (Some e.1) y) r

  -- what is looked up but for the row that was placed ahead
  pub not_ahead : (ahead : Option (Key × ℤ)) (q : ℤ) (es : List (ℤ × T)) → stands_ahead ahead q ≡ false → row_at q es ≡ row_at q (seen ahead es)
  not_ahead None q es h = refl
  not_ahead (Some s) q es h = sym (stays s.1 q es h)

  pub is_ahead : (ahead : Option (Key × ℤ)) (q : ℤ) (es : List (ℤ × T)) → stands_ahead ahead q ≡ true → None ≡ row_at q (seen ahead es)
  is_ahead None q es h = absurd (false≢true h)
  is_ahead (Some s) q es h = subst (λ x. None ≡ row_at x (without s.1 es)) (same_number s.1 q h) (sym (gone s.1 es))

  -- what was placed ahead, left out
  pub ahead_left_out : (s : Key × ℤ) (k : Key) (n : ℤ) (t : T) (es es' old : List (ℤ × T)) → s ≡ (k, n) → es' ≡ insert_entry int_cmp es n t → row_at n es ≡ None → es ≡ old → without s.1 es' ≡ old
  ahead_left_out s k n t es es' old e i r o = subst (λ (x : Key × ℤ). without x.1 es' ≡ old) (sym e) (subst (λ (y : List (ℤ × T)). without n y ≡ old) (sym i) (inserted_without n t es r ∙ o))
