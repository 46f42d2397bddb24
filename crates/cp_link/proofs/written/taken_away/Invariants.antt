use Rattle.std.proofs.Common.{◌≡◌, ◌≤◌, ◌-◌, drop, reverse}
use Rattle.cp_link.proofs.written.taken_away.Given as goal

abbrev pub invariant-taking : goal.invariant-taking
invariant-taking l = (l.taken ≤ l.count) × (reverse l.spots.items ≡ drop l.taken (reverse l.initial.spots.items))

abbrev pub decreases-taking : goal.decreases-taking
decreases-taking l = l.count - l.taken
