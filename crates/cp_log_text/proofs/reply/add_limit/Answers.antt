use Rattle.cp_log_text.proofs.Parts.{same, first}
use Rattle.cp_log_text.proofs.reply.add_limit.Goals as goal

pub returns : goal.returns
returns c = same (first c.in_ok-add_limit_name.ensures c.in_ok-number.ensures) (cc)
