use Rattle.std.proofs.Common.{◌≡◌, ◌≤◌, ◌+◌, ◌++◌, None, length}
use Rattle.std.specs.Prelude.{ℤ, List}
use Rattle.cp_term.specs.declared.cell.Cell.{Cell}
use Rattle.cp_term.specs.Unification.{unifiable_apart}
use Rattle.cp_counted.specs.Keys.{term_key}
use Rattle.cp_keyed.specs.Index.{tried}
use Rattle.cp_factindex.proofs.Collecting.{spots_in}
use Rattle.cp_factindex.proofs.look.unifying_rows.Given as goal

abbrev pub invariant-rows : goal.invariant-rows
invariant-rows g l = record {
  spots : spots_in term_key (λ (e : ℤ × List Cell). unifiable_apart l.pattern e.1) (tried term_key (term_key l.pattern) None l.facts.rows)
      ≡ l.spots.items ++ spots_in term_key (λ (e : ℤ × List Cell). unifiable_apart l.pattern e.1) (tried term_key (term_key l.pattern) l.cursor l.facts.rows);
  counted : l.initial.steps ≤ l.steps;
  steps : l.steps + length (tried term_key (term_key l.pattern) l.cursor l.facts.rows) ≤ l.initial.steps + length (tried term_key (term_key l.pattern) None l.facts.rows);
}

abbrev pub decreases-rows : goal.decreases-rows
decreases-rows g l = length (tried term_key (term_key l.pattern) l.cursor l.facts.rows)
