use Rattle.cp_log_text.proofs.Parts.{same, both}
use Rattle.cp_log_text.proofs.remote.add_terms.Goals as goal

pub returns : goal.returns
returns c = same (both c.in_ok-add_elements.ensures c.in_ok-word.ensures) (cc)
