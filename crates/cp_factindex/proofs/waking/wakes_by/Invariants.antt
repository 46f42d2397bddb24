use Rattle.std.proofs.Common.{◌≡◌, ◌≤◌, ◌+◌, ◌++◌, None, length}
use Rattle.std.specs.Prelude.{ℤ}
use Rattle.cp_call.specs.Object.{callers_of, sees, woken_by}
use Rattle.cp_counted.specs.Keys.{term_key}
use Rattle.cp_keyed.specs.Index.{tried}
use Rattle.cp_factindex.specs.declared.waiter.Waiter.{Waiter}
use Rattle.cp_factindex.specs.Contents.{parked_in}
use Rattle.cp_factindex.specs.Steps.{steps_to_wake}
use Rattle.cp_factindex.specs.Waiting.{waiter_key}
use Rattle.cp_factindex.proofs.Collecting.{spots_in}
use Rattle.cp_factindex.proofs.waking.wakes_by.Given as goal

abbrev pub invariant-rows : goal.invariant-rows
invariant-rows g l = record {
  callers : callers_of (woken_by l.fact (parked_in (tried waiter_key (term_key l.fact.fact) None l.waiting.rows)))
      ≡ l.callers ++ callers_of (woken_by l.fact (parked_in (tried waiter_key (term_key l.fact.fact) l.cursor l.waiting.rows)));
  spots : spots_in waiter_key (λ (e : ℤ × Waiter). sees e.1.row.pattern e.1.row.after l.fact) (tried waiter_key (term_key l.fact.fact) None l.waiting.rows)
      ≡ l.spots.items ++ spots_in waiter_key (λ (e : ℤ × Waiter). sees e.1.row.pattern e.1.row.after l.fact) (tried waiter_key (term_key l.fact.fact) l.cursor l.waiting.rows);
  counted : l.initial.steps ≤ l.steps;
  steps : l.steps + steps_to_wake l.fact (parked_in (tried waiter_key (term_key l.fact.fact) l.cursor l.waiting.rows)) ≤ l.initial.steps + steps_to_wake l.fact (parked_in (tried waiter_key (term_key l.fact.fact) None l.waiting.rows));
}

abbrev pub decreases-rows : goal.decreases-rows
decreases-rows g l = length (tried waiter_key (term_key l.fact.fact) l.cursor l.waiting.rows)
