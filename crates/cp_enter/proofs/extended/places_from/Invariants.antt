use Rattle.std.proofs.Common.{◌≡◌, ℕ, ◌+◌, ◌<◌, ◌≤◌, List, [], map, length, get_or, take, drop}
use Rattle.std.specs.Prelude.{All}
use Rattle.cp_term.specs.declared.cell.Cell.{Cell}
use Rattle.cp_enter.proofs.extended.places_from.Given as goal

abbrev pub invariant-places : goal.invariant-places
invariant-places l = record {
  terms : (terms : List (List Cell)) → l.first + l.count ≤ length terms → map (λ r. get_or terms r.at []) l.places ≡ take l.index (drop l.first terms);
  live : (n : ℕ) → l.first + l.count ≤ n → All (λ r. r.at < n) l.places;
  len : length l.places ≡ l.index;
}
