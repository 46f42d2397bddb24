use Rattle.std.proofs.Common.{◌≡◌, ◌≤◌, length, take}
use Rattle.cp_link.specs.Modules.{rules_in}
use Rattle.cp_link.proofs.clauses.count_rules.Given as goal

abbrev pub invariant-loop-clause : goal.invariant-loop-clause
invariant-loop-clause l = (l.count ≤ l.clause-index) × (l.count ≡ length (rules_in (take l.clause-index l.clauses)))
