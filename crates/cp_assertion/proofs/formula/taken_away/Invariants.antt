use Rattle.std.proofs.Common.{◌≡◌, ◌≤◌, ◌-◌, drop}
use Rattle.cp_assertion.specs.Formulas.{stack_shown}
use Rattle.cp_assertion.proofs.formula.taken_away.Given as goal

abbrev pub invariant-taking : goal.invariant-taking
invariant-taking l = (l.taken ≤ l.count) × (stack_shown l.parts.items ≡ drop l.taken (stack_shown l.initial.parts.items))

abbrev pub decreases-taking : goal.decreases-taking
decreases-taking l = l.count - l.taken
