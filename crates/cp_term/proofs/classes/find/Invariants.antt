use Rattle.std.proofs.Common.{◌≡◌, ◌<◌, ◌≤◌, ℕ, length, sum}
use Rattle.cp_term.specs.Classes.{Falls, IsForest}
use Rattle.cp_term.proofs.classes.find.Given as goal

abbrev pub invariant-loop-parents : goal.invariant-loop-parents
invariant-loop-parents l = record {
  within : l.at < length l.parents;
  below : l.at ≤ l.place;
  falls : Falls l.parents;
  sum : sum l.parents ≤ sum l.initial.parents;
  forest : (root : ℕ → ℕ) → IsForest l.initial.parents root → IsForest l.parents root × (root l.at ≡ root l.place);
}

abbrev pub decreases-loop-parents : goal.decreases-loop-parents
decreases-loop-parents l = l.at
