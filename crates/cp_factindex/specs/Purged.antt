-- Which facts go at a purge.
use Rattle.std.specs.Prelude.{◌≡◌, not, List, filter, length, ℤ}
use Rattle.cp_term.specs.declared.cell.Cell.{Cell}
use Rattle.cp_term.specs.Unification.{unifiable_apart}
use Rattle.cp_call.specs.declared.outcome.FactRow.{FactRow}
use Rattle.cp_counted.specs.declared.key.Key.{Key}
use Rattle.cp_counted.specs.Keys.{term_key}
use Rattle.cp_keyed.specs.Index.{AreRight, is_among}
use Rattle.cp_factindex.specs.Contents.{facts_in}

-- The spots are those of the facts that unify with the pattern.
pub record IsPurgedBy (pattern : List Cell) (rows : List (ℤ × List Cell)) (spots : List (Key × ℤ)) : Type 0 where
  pub right : AreRight term_key rows spots
  pub left : facts_in (filter (λ (e : ℤ × List Cell). not (is_among spots e.0)) rows) ≡ filter (λ (f : FactRow). not (unifiable_apart pattern f.fact)) (facts_in rows)
  pub count : length spots ≡ length (filter (λ (f : FactRow). unifiable_apart pattern f.fact) (facts_in rows))
