use Rattle.cp_log_text.proofs.Parts.{same, first}
use Rattle.cp_log_text.proofs.remote.add_remote_call.Goals as goal

pub returns : goal.returns
returns c = same (first c.in_ok-name.ensures (first c.in_ok-term.ensures (first c.in_ok-number.ensures c.in_ok-number-2.ensures))) (cc)
