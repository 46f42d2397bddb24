use Rattle.std.proofs.Common.{◌≡◌, ◌++◌, List, take, drop}
use Rattle.cp_code.specs.declared.clause.Clause.{Clause}
use Rattle.cp_assertion.specs.RegularTypes.{given}
use Rattle.cp_load.proofs.type_rows.give_row.Given as goal

abbrev pub invariant-loop-at : goal.invariant-loop-at
invariant-loop-at l = (l.rows ≡ l.initial.rows) × ((cs : List Clause) → given l.rows l.name cs ≡ take l.at l.rows ++ given (drop l.at l.rows) l.name cs)
