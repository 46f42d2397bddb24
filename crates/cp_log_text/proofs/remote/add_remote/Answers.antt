use Rattle.cp_log_text.proofs.Parts.{same, both, first}
use Rattle.cp_log_text.proofs.remote.add_remote.Goals as goal

pub returns : goal.returns
returns c = same (first c.in_ok-functor.ensures (both c.in_ok-add_remote_call.ensures c.in_ok-add_remote_reply.ensures)) (cc)
