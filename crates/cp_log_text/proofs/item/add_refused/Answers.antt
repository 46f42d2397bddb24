use Rattle.cp_log_text.proofs.Parts.{same, both, first}
use Rattle.cp_log_text.proofs.item.add_refused.Goals as goal

pub returns : goal.returns
returns c = same (first c.in_ok-functor.ensures (first c.in_ok-number.ensures (both c.in_ok-add_call.ensures c.in_ok-add_limit.ensures))) (cc)
