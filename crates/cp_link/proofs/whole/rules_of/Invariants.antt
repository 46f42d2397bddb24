use Rattle.std.proofs.Common.{◌≡◌, ◌≤◌, ◌+◌, drop}
use Rattle.cp_link.specs.Kept.{counted}
use Rattle.cp_link.specs.Refusals.{rules_of_parts}
use Rattle.cp_link.proofs.whole.rules_of.Given as goal

abbrev pub invariant-loop-part : goal.invariant-loop-part
invariant-loop-part l = (l.rules ≤ 18446744073709551615) × (counted (l.rules + rules_of_parts (drop l.part-index l.parts)) ≡ counted (rules_of_parts l.parts))
