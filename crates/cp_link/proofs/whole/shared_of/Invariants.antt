use Rattle.std.proofs.Common.{◌≡◌, ◌≤◌, ◌+◌, drop}
use Rattle.cp_link.specs.Kept.{counted}
use Rattle.cp_link.specs.Refusals.{shared_of_parts}
use Rattle.cp_link.proofs.whole.shared_of.Given as goal

abbrev pub invariant-loop-part : goal.invariant-loop-part
invariant-loop-part l = (l.shared ≤ 18446744073709551615) × (counted (l.shared + shared_of_parts (drop l.part-index l.parts)) ≡ counted (shared_of_parts l.parts))
