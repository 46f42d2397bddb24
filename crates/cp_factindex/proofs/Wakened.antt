-- The parked callers that a fact wakes.
use Rattle.std.proofs.Common.{◌≡◌, ◌≤◌, ◌++◌, arith, ℕ, ◌+◌, Bool, true, false, not, ◌&&◌, cond, List, [], ◌∷◌, None, refl, sym, ◌∙◌, ap, subst}
use Rattle.std.specs.Prelude.{ℤ}
use Rattle.std.specs.Cmp.{both_ways}
use Rattle.std.proofs.lemmas.Bool.{false≢true}
use Rattle.cp_call.specs.declared.outcome.FactRow.{FactRow}
use Rattle.cp_call.specs.declared.outcome.ParkedRow.{ParkedRow}
use Rattle.cp_call.specs.Object.{callers_of, woken_by, sees, is_above}
use Rattle.cp_term.specs.Unification.{unifiable_apart}
use Rattle.cp_counted.specs.declared.key.Key.{Key}
use Rattle.cp_counted.specs.declared.key.Key.TheVariants as k
use Rattle.cp_counted.specs.Keys.{term_key, key_eq, key_eq-true, key_eq-Decides, keys_agree}
use Rattle.cp_counted.specs.Agreement.{agree_from_unifiable}
use Rattle.cp_keyed.specs.Index.{AreAscending, tried}
use Rattle.cp_factindex.specs.declared.waiter.Waiter.{Waiter}
use Rattle.cp_factindex.specs.declared.waking.Woken.{Woken}
use Rattle.cp_factindex.specs.Waiting.{waiter_key}
use Rattle.cp_factindex.specs.Contents.{parked_in}
use Rattle.cp_factindex.specs.Steps.{steps_to_wake}
use Rattle.cp_factindex.specs.Woken.{IsWokenBy, steps_to_see}
use Rattle.cp_factindex.proofs.Collecting.{by_false, second, spots_in, spots_tried, left_is, right_of, filter_map_is}

key_back : (a b : Key) → key_eq a b ≡ key_eq b a
key_back a b = both_ways (key_eq a b) (key_eq b a) (λ e. (key_eq-Decides b a).1 (sym (key_eq-true a b e))) (λ e. (key_eq-Decides a b).1 (sym (key_eq-true b a e)))

-- keys agree either way
agree_back : (a b : Key) → keys_agree a b ≡ keys_agree b a
agree_back k.Missing k.Missing = refl
agree_back k.Missing (k.Int j) = refl
agree_back k.Missing (k.Atom b) = refl
agree_back k.Missing (k.Func g j) = refl
agree_back (k.Int i) k.Missing = refl
agree_back (k.Atom a) k.Missing = refl
agree_back (k.Func f i) k.Missing = refl
agree_back (k.Int i) (k.Int j) = key_back (k.Int i) (k.Int j)
agree_back (k.Int i) (k.Atom b) = refl
agree_back (k.Int i) (k.Func g j) = refl
agree_back (k.Atom a) (k.Int j) = refl
agree_back (k.Atom a) (k.Atom b) = key_back (k.Atom a) (k.Atom b)
agree_back (k.Atom a) (k.Func g j) = refl
agree_back (k.Func f i) (k.Int j) = refl
agree_back (k.Func f i) (k.Atom b) = refl
agree_back (k.Func f i) (k.Func g j) = key_back (k.Func f i) (k.Func g j)

module _ (f : FactRow) where
  abbrev pub wakes_at : ℤ × Waiter → Bool
  wakes_at e = sees e.1.row.pattern e.1.row.after f

  agrees : (e : ℤ × Waiter) → wakes_at e ≡ true → keys_agree (term_key f.fact) (waiter_key e.1) ≡ true
  agrees e h = agree_back (term_key f.fact) (waiter_key e.1) ∙ agree_from_unifiable e.1.row.pattern f.fact (second (is_above e.1.row.after f.place) (unifiable_apart e.1.row.pattern f.fact) h)

  -- only the callers that are tried are woken
  callers_tried : (rows : List (ℤ × Waiter)) → callers_of (woken_by f (parked_in (tried waiter_key (term_key f.fact) None rows))) ≡ callers_of (woken_by f (parked_in rows))
  callers_tried [] = refl
  callers_tried (e ∷ rows) = by_test (keys_agree (term_key f.fact) (waiter_key e.1)) (callers_tried rows) (agrees e)
    where
      same : (b : Bool) (F G : List ParkedRow) → callers_of F ≡ callers_of G → callers_of (cond b (e.1.row ∷ F) F) ≡ callers_of (cond b (e.1.row ∷ G) G)
      same true F G h = ap (λ r. e.1.row.caller ∷ r) h
      same false F G h = h

      by_test : (t : Bool) → callers_of (woken_by f (parked_in (tried waiter_key (term_key f.fact) None rows))) ≡ callers_of (woken_by f (parked_in rows)) → (wakes_at e ≡ true → t ≡ true)
          → callers_of (woken_by f (parked_in (cond t (e ∷ tried waiter_key (term_key f.fact) None rows) (tried waiter_key (term_key f.fact) None rows))))
          ≡ callers_of (cond (wakes_at e) (e.1.row ∷ woken_by f (parked_in rows)) (woken_by f (parked_in rows)))
      by_test true l n = same (wakes_at e) (woken_by f (parked_in (tried waiter_key (term_key f.fact) None rows))) (woken_by f (parked_in rows)) l
      by_test false l n = l ∙ ap callers_of (sym (ap (λ b. cond b (e.1.row ∷ woken_by f (parked_in rows)) (woken_by f (parked_in rows))) (by_false (wakes_at e) (λ u. false≢true (n u)))))

  pub woken : (rows : List (ℤ × Waiter)) (w : Woken) → AreAscending rows
      → w.callers ≡ callers_of (woken_by f (parked_in (tried waiter_key (term_key f.fact) None rows)))
      → w.spots.items ≡ spots_in waiter_key wakes_at (tried waiter_key (term_key f.fact) None rows)
      → IsWokenBy f rows w
  woken rows w asc c s =
      let are : w.spots.items ≡ spots_in waiter_key wakes_at rows = s ∙ spots_tried waiter_key wakes_at (term_key f.fact) rows agrees in
      record {
        callers = c ∙ callers_tried rows;
        right = rw are (right_of waiter_key wakes_at rows asc);
        left = rw are (ap parked_in (left_is waiter_key wakes_at rows asc) ∙ sym (filter_map_is (λ (e : ℤ × Waiter). e.1.row) (λ (x : ParkedRow). not (sees x.pattern x.after f)) rows));
      }

  both_false : (a : Bool) → (a && false) ≡ false
  both_false true = refl
  both_false false = refl

  -- only the callers that are tried are counted
  pub wake_tries : (rows : List (ℤ × Waiter)) → steps_to_wake f (parked_in rows) ≡ steps_to_wake f (parked_in (tried waiter_key (term_key f.fact) None rows))
  wake_tries [] = refl
  wake_tries (e ∷ rows) = by_test (keys_agree (term_key f.fact) (waiter_key e.1)) refl (wake_tries rows)
    where
      by_test : (t : Bool) → keys_agree (term_key f.fact) (waiter_key e.1) ≡ t → steps_to_wake f (parked_in rows) ≡ steps_to_wake f (parked_in (tried waiter_key (term_key f.fact) None rows))
          → steps_to_wake f (parked_in (e ∷ rows)) ≡ steps_to_wake f (parked_in (cond t (e ∷ tried waiter_key (term_key f.fact) None rows) (tried waiter_key (term_key f.fact) None rows)))
      by_test true q h = ap (λ n. cond (is_above e.1.row.after f.place && keys_agree (term_key f.fact) (waiter_key e.1)) 1 0 + n) h
      by_test false q h =
          let none : steps_to_wake f (parked_in (e ∷ rows)) ≡ 0 + steps_to_wake f (parked_in rows) =
          ap (λ b. cond b 1 0 + steps_to_wake f (parked_in rows)) (ap (λ b. is_above e.1.row.after f.place && b) q ∙ both_false (is_above e.1.row.after f.place)) in
          omega (arith, none, h)

  pub wakes_at_most : (rows : List (ℤ × Waiter)) (k m : ℕ) → k ≤ m + steps_to_wake f (parked_in (tried waiter_key (term_key f.fact) None rows)) → k ≤ m + steps_to_wake f (parked_in rows)
  wakes_at_most rows k m h = subst (λ (n : ℕ). k ≤ m + n) (sym (wake_tries rows)) h

  module _ (now rest : List (ℤ × Waiter)) (e : ℤ × Waiter) (first : now ≡ e ∷ rest) where
    calls : (all callers : List ℕ) → all ≡ callers ++ callers_of (woken_by f (parked_in now)) → all ≡ callers ++ callers_of (cond (wakes_at e) (e.1.row ∷ woken_by f (parked_in rest)) (woken_by f (parked_in rest)))
    calls all callers h = h ∙ ap (λ r. callers ++ callers_of (woken_by f (parked_in r))) first

    joined : (xs : List ℕ) (s : ℕ) (ys : List ℕ) → xs ++ s ∷ ys ≡ (xs ++ s ∷ []) ++ ys
    joined [] s ys = refl
    joined (x ∷ xs) s ys = ap (λ r. x ∷ r) (joined xs s ys)

    pub called : (all callers more : List ℕ) → all ≡ callers ++ callers_of (woken_by f (parked_in now)) → wakes_at e ≡ true → more ≡ callers ++ e.1.row.caller ∷ []
        → all ≡ more ++ callers_of (woken_by f (parked_in rest))
    called all callers more h u m = calls all callers h ∙ (ap (λ b. callers ++ callers_of (cond b (e.1.row ∷ woken_by f (parked_in rest)) (woken_by f (parked_in rest)))) u
        ∙ (joined callers e.1.row.caller (callers_of (woken_by f (parked_in rest))) ∙ ap (λ r. r ++ callers_of (woken_by f (parked_in rest))) (sym m)))

    pub passed_over : (all callers : List ℕ) → all ≡ callers ++ callers_of (woken_by f (parked_in now)) → wakes_at e ≡ false → all ≡ callers ++ callers_of (woken_by f (parked_in rest))
    passed_over all callers h u = calls all callers h ∙ ap (λ b. callers ++ callers_of (cond b (e.1.row ∷ woken_by f (parked_in rest)) (woken_by f (parked_in rest)))) u

    pub steps_left : (n m k : ℕ) → k ≡ n + steps_to_see e.1.row f → keys_agree (term_key f.fact) (waiter_key e.1) ≡ true → n + steps_to_wake f (parked_in now) ≤ m → k + steps_to_wake f (parked_in rest) ≤ m
    steps_left n m k is agree h =
        let more : steps_to_wake f (parked_in now) ≡ steps_to_see e.1.row f + steps_to_wake f (parked_in rest) =
        ap (λ r. steps_to_wake f (parked_in r)) first ∙ (ap (λ b. cond (is_above e.1.row.after f.place && b) 1 0 + steps_to_wake f (parked_in rest)) agree
        ∙ ap (λ b. cond b 1 0 + steps_to_wake f (parked_in rest)) (both_true (is_above e.1.row.after f.place))) in
        omega (arith, is, h, more)
      where
        both_true : (a : Bool) → (a && true) ≡ a
        both_true true = refl
        both_true false = refl

pub all_called : (all callers rest : List ℕ) → all ≡ callers ++ rest → rest ≡ [] → callers ≡ all
all_called all callers rest h e = sym (h ∙ (ap (λ r. callers ++ r) e ∙ end callers))
  where
    end : (xs : List ℕ) → xs ++ [] ≡ xs
    end [] = refl
    end (x ∷ xs) = ap (λ r. x ∷ r) (end xs)

-- a call of no key tries all rows
pub all_tried : (rows : List (ℤ × Waiter)) → tried waiter_key k.Missing None rows ≡ rows
all_tried [] = refl
all_tried (e ∷ rows) = ap (λ r. e ∷ r) (all_tried rows)
