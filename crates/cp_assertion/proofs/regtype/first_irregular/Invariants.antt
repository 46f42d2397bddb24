use Rattle.std.proofs.Common.{◌≡◌, drop}
use Rattle.std.specs.List.{position_from}
use Rattle.cp_assertion.specs.RegularTypes.{is_irregular}
use Rattle.cp_assertion.proofs.regtype.first_irregular.Given as goal

abbrev pub invariant-loop-clause : goal.invariant-loop-clause
invariant-loop-clause l = (l.at ≡ l.clause-index) × (position_from (is_irregular l.types l.name) 0 l.clause-items ≡ position_from (is_irregular l.types l.name) l.at (drop l.clause-index l.clause-items))
