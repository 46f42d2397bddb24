use Rattle.std.proofs.Common.{◌≡◌, ◌≤◌, ◌+◌, length}
use Rattle.cp_counted.specs.Keys.{term_key}
use Rattle.cp_keyed.specs.Index.{tried}
use Rattle.cp_factindex.proofs.Looking.{seen_in, tries_in}
use Rattle.cp_factindex.proofs.look.seen_row.Given as goal

-- what is left decides
abbrev pub invariant-rows : goal.invariant-rows
invariant-rows g l = record {
  seen : seen_in l.pattern (tried term_key (term_key l.pattern) l.fn.after l.facts.rows) ≡ seen_in l.pattern (tried term_key (term_key l.pattern) l.cursor l.facts.rows);
  counted : l.initial.steps ≤ l.steps;
  steps : l.steps + tries_in l.pattern (tried term_key (term_key l.pattern) l.cursor l.facts.rows) ≤ l.initial.steps + tries_in l.pattern (tried term_key (term_key l.pattern) l.fn.after l.facts.rows);
}

abbrev pub decreases-rows : goal.decreases-rows
decreases-rows g l = length (tried term_key (term_key l.pattern) l.cursor l.facts.rows)
