-- The facts that a purge takes out.
use Rattle.std.proofs.Common.{◌≡◌, ◌≤◌, ◌+◌, ℕ, suc, Bool, true, false, not, cond, List, [], ◌∷◌, length, filter, None, refl, sym, ◌∙◌, ap, subst, arith}
use Rattle.std.specs.Prelude.{ℤ}
use Rattle.cp_term.specs.declared.cell.Cell.{Cell}
use Rattle.cp_term.specs.Unification.{unifiable_apart}
use Rattle.cp_call.specs.declared.outcome.FactRow.{FactRow}
use Rattle.cp_counted.specs.declared.key.Key.{Key}
use Rattle.cp_counted.specs.Keys.{term_key, keys_agree}
use Rattle.cp_counted.specs.Agreement.{agree_from_unifiable}
use Rattle.cp_keyed.specs.Index.{AreAscending, tried}
use Rattle.cp_factindex.specs.Contents.{facts_in}
use Rattle.cp_factindex.specs.Purged.{IsPurgedBy}
use Rattle.cp_factindex.specs.Steps.{steps_to_purge}
use Rattle.cp_factindex.proofs.Collecting.{spots_in, spots_tried, spots_length, left_is, right_of, filter_map_is}
use Rattle.cp_factindex.proofs.Looking.{fact_of, left}

module _ (pattern : List Cell) (rows : List (ℤ × List Cell)) (asc : AreAscending rows) where
  abbrev unifies : ℤ × List Cell → Bool
  unifies e = unifiable_apart pattern e.1

  exact : IsPurgedBy pattern rows (spots_in term_key unifies rows)
  exact = record {
    right = right_of term_key unifies rows asc;
    left = ap facts_in (left_is term_key unifies rows asc) ∙ sym (filter_map_is fact_of (λ (f : FactRow). not (unifiable_apart pattern f.fact)) rows);
    count = spots_length term_key unifies rows ∙ (sym (facts_long (filter unifies rows)) ∙ ap length (sym (filter_map_is fact_of (λ (f : FactRow). unifiable_apart pattern f.fact) rows)));
  }
    where
      facts_long : (es : List (ℤ × List Cell)) → length (facts_in es) ≡ length es
      facts_long [] = refl
      facts_long (e ∷ es) = ap (λ n. suc n) (facts_long es)

  pub purged : (spots : List (Key × ℤ)) → spots ≡ spots_in term_key unifies (tried term_key (term_key pattern) None rows) → IsPurgedBy pattern rows spots
  purged spots e = subst (IsPurgedBy pattern rows) (sym (e ∙ spots_tried term_key unifies (term_key pattern) rows (λ x u. agree_from_unifiable pattern x.1 u))) exact

-- whether a row unifies with the pattern
abbrev pub unified : List Cell → ℤ × List Cell → Bool
unified pattern e = unifiable_apart pattern e.1

-- only rows that are tried are counted
pub purge_tries : (pattern : List Cell) (rows : List (ℤ × List Cell)) → steps_to_purge pattern (facts_in rows) ≡ length (left pattern rows None)
purge_tries pattern [] = refl
purge_tries pattern (e ∷ rows) = by_test (keys_agree (term_key pattern) (term_key e.1)) (purge_tries pattern rows)
  where
    by_test : (b : Bool) → steps_to_purge pattern (facts_in rows) ≡ length (left pattern rows None)
        → cond b 1 0 + steps_to_purge pattern (facts_in rows) ≡ length (cond b (e ∷ left pattern rows None) (left pattern rows None))
    by_test true h = omega (arith, h)
    by_test false h = omega (arith, h)

-- the steps that are counted are at most those of the purge
pub purges_at_most : (pattern : List Cell) (rows : List (ℤ × List Cell)) (k m : ℕ) → k ≤ m + length (left pattern rows None) → k ≤ m + steps_to_purge pattern (facts_in rows)
purges_at_most pattern rows k m h = subst (λ (n : ℕ). k ≤ m + n) (sym (purge_tries pattern rows)) h
