use Rattle.std.proofs.Common.{◌≡◌, ◌≤◌, ◌-◌, drop, reverse}
use Rattle.cp_assertion.proofs.body.taken_away.Given as goal

abbrev pub invariant-taking : goal.invariant-taking
invariant-taking l = (l.taken ≤ l.count) × (reverse l.parts.items ≡ drop l.taken (reverse l.initial.parts.items))

abbrev pub decreases-taking : goal.decreases-taking
decreases-taking l = l.count - l.taken
