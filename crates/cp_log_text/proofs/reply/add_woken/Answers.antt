use Rattle.cp_log_text.proofs.Parts.{same, both}
use Rattle.cp_log_text.proofs.reply.add_woken.Goals as goal

pub returns : goal.returns
returns c = same (both c.in_ok-add_callers.ensures c.in_ok-word.ensures) (cc)
