-- A look that tries only the facts whose key agrees.
use Rattle.std.proofs.Common.{◌≡◌, ◌≤◌, ℕ, ◌+◌, Bool, true, false, ◌&&◌, cond, List, [], ◌∷◌, Option, Some, None, refl, sym, ◌∙◌, ap, subst, arith}
use Rattle.std.specs.Prelude.{ℤ}
use Rattle.std.proofs.lemmas.Bool.{false≢true}
use Rattle.cp_term.specs.declared.cell.Cell.{Cell}
use Rattle.cp_term.specs.Unification.{unifiable_apart}
use Rattle.cp_call.specs.declared.outcome.FactRow.{FactRow}
use Rattle.cp_call.specs.Object.{is_above, first_seen}
use Rattle.cp_counted.specs.Keys.{term_key, keys_agree}
use Rattle.cp_counted.specs.Agreement.{agree_from_unifiable}
use Rattle.cp_keyed.specs.Search.{is_after}
use Rattle.cp_keyed.specs.Index.{tried}
use Rattle.cp_factindex.proofs.Collecting.{by_false}
use Rattle.cp_factindex.specs.Contents.{facts_in}
use Rattle.cp_factindex.specs.Steps.{steps_to_look}

pub above_is : (after : Option ℤ) (place : ℤ) → is_above after place ≡ is_after after place
above_is None place = refl
above_is (Some cursor) place = refl

abbrev pub fact_of : ℤ × List Cell → FactRow
fact_of e = record { place = e.0; fact = e.1 }

-- the first of these facts that unifies with the pattern, and the attempts up to and with it
abbrev pub seen_in : List Cell → List (ℤ × List Cell) → Option FactRow
seen_in pattern [] = None
seen_in pattern (e ∷ es) = cond (unifiable_apart pattern e.1) (Some (fact_of e)) (seen_in pattern es)

abbrev pub tries_in : List Cell → List (ℤ × List Cell) → ℕ
tries_in pattern [] = 0
tries_in pattern (e ∷ es) = 1 + cond (unifiable_apart pattern e.1) 0 (tries_in pattern es)

-- a fact whose key does not agree does not unify
pub apart : (pattern fact : List Cell) → keys_agree (term_key pattern) (term_key fact) ≡ false → unifiable_apart pattern fact ≡ false
apart pattern fact h = by_false (unifiable_apart pattern fact) (λ u. false≢true (sym h ∙ agree_from_unifiable pattern fact u))

module _ (pattern : List Cell) (after : Option ℤ) where
  seen_head : (e : ℤ × List Cell) (a k : Bool) (F : Option FactRow) (G : List (ℤ × List Cell)) → keys_agree (term_key pattern) (term_key e.1) ≡ k → F ≡ seen_in pattern G
      → cond (a && unifiable_apart pattern e.1) (Some (fact_of e)) F ≡ seen_in pattern (cond (a && k) (e ∷ G) G)
  seen_head e false k F G s h = h
  seen_head e true true F G s h = ap (λ x. cond (unifiable_apart pattern e.1) (Some (fact_of e)) x) h
  seen_head e true false F G s h = ap (λ b. cond b (Some (fact_of e)) F) (apart pattern e.1 s) ∙ h

  pub seen_is : (rows : List (ℤ × List Cell)) → first_seen (facts_in rows) pattern after ≡ seen_in pattern (tried term_key (term_key pattern) after rows)
  seen_is [] = refl
  seen_is (e ∷ rows) = ap (λ b. cond (b && unifiable_apart pattern e.1) (Some (fact_of e)) (first_seen (facts_in rows) pattern after)) (above_is after e.0)
      ∙ seen_head e (is_after after e.0) (keys_agree (term_key pattern) (term_key e.1)) (first_seen (facts_in rows) pattern after) (tried term_key (term_key pattern) after rows) refl (seen_is rows)

  tries_head : (e : ℤ × List Cell) (a k : Bool) (F : ℕ) (G : List (ℤ × List Cell)) → F ≡ tries_in pattern G
      → cond (a && k) (1 + cond (unifiable_apart pattern e.1) 0 F) F ≡ tries_in pattern (cond (a && k) (e ∷ G) G)
  tries_head e false k F G h = h
  tries_head e true true F G h = ap (λ x. 1 + cond (unifiable_apart pattern e.1) 0 x) h
  tries_head e true false F G h = h

  pub tries_are : (rows : List (ℤ × List Cell)) → steps_to_look pattern after (facts_in rows) ≡ tries_in pattern (tried term_key (term_key pattern) after rows)
  tries_are [] = refl
  tries_are (e ∷ rows) = ap (λ b. cond (b && keys_agree (term_key pattern) (term_key e.1)) (1 + cond (unifiable_apart pattern e.1) 0 (steps_to_look pattern after (facts_in rows))) (steps_to_look pattern after (facts_in rows))) (above_is after e.0)
      ∙ tries_head e (is_after after e.0) (keys_agree (term_key pattern) (term_key e.1)) (steps_to_look pattern after (facts_in rows)) (tried term_key (term_key pattern) after rows) (tries_are rows)

-- what is left of the rows that a pattern tries
abbrev pub left : List Cell → List (ℤ × List Cell) → Option ℤ → List (ℤ × List Cell)
left pattern rows cursor = tried term_key (term_key pattern) cursor rows

module _ (pattern : List Cell) (all now rest : List (ℤ × List Cell)) (e : ℤ × List Cell) (first : now ≡ e ∷ rest) where
  pub seen_first : seen_in pattern all ≡ seen_in pattern now → unifiable_apart pattern e.1 ≡ true → Some (fact_of e) ≡ seen_in pattern all
  seen_first s u = sym (s ∙ (ap (seen_in pattern) first ∙ ap (λ b. cond b (Some (fact_of e)) (seen_in pattern rest)) u))

  pub seen_later : seen_in pattern all ≡ seen_in pattern now → unifiable_apart pattern e.1 ≡ false → seen_in pattern all ≡ seen_in pattern rest
  seen_later s u = s ∙ (ap (seen_in pattern) first ∙ ap (λ b. cond b (Some (fact_of e)) (seen_in pattern rest)) u)

  pub tries_later : (n m k : ℕ) → k ≡ n + 1 → n + tries_in pattern now ≤ m → unifiable_apart pattern e.1 ≡ false → k + tries_in pattern rest ≤ m
  tries_later n m k is h u =
      let more : tries_in pattern now ≡ 1 + tries_in pattern rest = ap (tries_in pattern) first ∙ ap (λ b. 1 + cond b 0 (tries_in pattern rest)) u in
      omega (arith, is, h, more)

  pub tries_more : (n m k : ℕ) → k ≡ n + 1 → n + tries_in pattern now ≤ m → k ≤ m
  tries_more n m k is h =
      let more : tries_in pattern now ≡ 1 + cond (unifiable_apart pattern e.1) 0 (tries_in pattern rest) = ap (tries_in pattern) first in
      omega (arith, is, h, more)

-- the steps that are counted are at most those of the look
pub looked : (pattern : List Cell) (after : Option ℤ) (rows : List (ℤ × List Cell)) (k m : ℕ) → k ≤ m + tries_in pattern (left pattern rows after) → k ≤ m + steps_to_look pattern after (facts_in rows)
looked pattern after rows k m h = subst (λ (n : ℕ). k ≤ m + n) (sym (tries_are pattern after rows)) h
