use Rattle.std.proofs.Common.{rules}
use Rattle.cp_log_text.proofs.Parts.{same, first}
use Rattle.cp_log_text.proofs.call.add_cursor.Goals as goal

pub returns-in_ok-integer-in-Some : goal.returns-in_ok-integer-in-Some
returns-in_ok-integer-in-Some c = same (first c.in_ok-functor-in-Some.ensures c.in_ok-integer-in-Some.ensures) (search rules)
