use Rattle.cp_log_text.proofs.Parts.{same, both, first}
use Rattle.cp_log_text.proofs.remote.add_answers.Goals as goal

pub returns : goal.returns
returns c = same (first c.in_ok-functor.ensures (both c.in_ok-add_terms.ensures c.in_ok-add_end.ensures)) (cc)
