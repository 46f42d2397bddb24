-- The numbers of the parked callers are those of their rows.
use Rattle.std.proofs.Common.{◌≡◌, ℕ, ◌==◌, Bool, true, false, ◌||◌, cond, List, [], ◌∷◌, Option, Some, None, refl, sym, ◌∙◌, ap, subst}
use Rattle.std.specs.Prelude.{ℤ, is_some}
use Rattle.std.specs.Ordering.{int_eq}
use Rattle.std.specs.BTreeMap.{BTreeMap}
use Rattle.std.proofs.lemmas.Bool.Decides.{Decides-eqb}
use Rattle.cp_keyed.specs.Index.{row_at}
use Rattle.cp_factindex.specs.declared.waiter.Waiter.{Waiter}
use Rattle.cp_factindex.specs.Waiting.{number_in, is_caller_in, AreNumbered}

module _ (numbers : BTreeMap ℕ (Option ℤ)) (caller : ℕ) where
  none_is : (rows : List (ℤ × Waiter)) → AreNumbered numbers rows → number_in numbers caller ≡ None → is_caller_in rows caller ≡ false
  none_is [] h n = refl
  none_is (e ∷ rows) h n = by_test (e.1.row.caller == caller) refl (none_is rows h.1 n)
    where
      by_test : (b : Bool) → (e.1.row.caller == caller) ≡ b → is_caller_in rows caller ≡ false → (b || is_caller_in rows caller) ≡ false
      by_test true q l =
          let there : number_in numbers caller ≡ Some e.0 = subst (λ (c : ℕ). number_in numbers c ≡ Some e.0) ((Decides-eqb e.1.row.caller caller).0 q) h.0 in
          let never : None ≡ Some e.0 = sym n ∙ there in
          cc
      by_test false q l = l

  or_true : (b : Bool) → (b || true) ≡ true
  or_true true = refl
  or_true false = refl

  one_is : (rows : List (ℤ × Waiter)) (number : ℤ) (w : Waiter) → row_at number rows ≡ Some w → w.row.caller ≡ caller → is_caller_in rows caller ≡ true
  one_is [] number w r c = cc
  one_is (e ∷ rows) number w r c = by_test (int_eq number e.0) (λ q. one_is rows number w q c) r
    where
      by_test : (b : Bool) → (row_at number rows ≡ Some w → is_caller_in rows caller ≡ true) → cond b (Some e.1) (row_at number rows) ≡ Some w → ((e.1.row.caller == caller) || is_caller_in rows caller) ≡ true
      by_test true l q =
          let z : e.1 ≡ w = cc in
          ap (λ b. b || is_caller_in rows caller) ((Decides-eqb e.1.row.caller caller).1 (ap (λ (x : Waiter). x.row.caller) z ∙ c))
      by_test false l q = ap (λ b. (e.1.row.caller == caller) || b) (l q) ∙ or_true (e.1.row.caller == caller)

  pub parked_is : (rows : List (ℤ × Waiter)) → AreNumbered numbers rows
      → ((number : ℤ) → number_in numbers caller ≡ Some number → (w : Waiter) × (row_at number rows ≡ Some w) × (w.row.caller ≡ caller))
      → is_some (number_in numbers caller) ≡ is_caller_in rows caller
  parked_is rows h p = by_number (number_in numbers caller) refl
    where
      by_number : (o : Option ℤ) → number_in numbers caller ≡ o → is_some o ≡ is_caller_in rows caller
      by_number None q = sym (none_is rows h q)
      by_number (Some number) q = let w = p number q in sym (one_is rows number w.0 w.1 w.2)
