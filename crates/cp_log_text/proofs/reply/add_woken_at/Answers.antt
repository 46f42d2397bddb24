use Rattle.std.proofs.Common.{rules}
use Rattle.cp_log_text.proofs.Parts.{same, first}
use Rattle.cp_log_text.proofs.reply.add_woken_at.Goals as goal

pub returns : goal.returns
returns c = same (first c.in_ok-functor.ensures (first c.in_ok-integer.ensures c.in_ok-add_woken.ensures)) (search rules)
