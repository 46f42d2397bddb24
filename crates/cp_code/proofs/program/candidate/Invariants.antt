use Rattle.std.proofs.Common.{◌≡◌, ℕ, ◌<◌, ◌≤◌, false}
use Rattle.std.specs.Option.{option_copied}
use Rattle.cp_code.specs.Candidates.{matches_at}
use Rattle.cp_code.proofs.program.candidate.Given as goal

abbrev pub invariant-loop-at : goal.invariant-loop-at
invariant-loop-at l = (k : ℕ) → l.from ≤ k → k < l.at → matches_at l.clauses (option_copied l.first) k ≡ false
