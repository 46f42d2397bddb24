use Rattle.cp_term.proofs.lemmas.NumberingLaws.{canon-canon, IsNumbered-canon, canon-fresh}
use Rattle.cp_term.proofs.laws.numbering_is_a_normal_form.Goals as goal

pub returns : goal.returns
returns c = record { again = canon-canon; tested = IsNumbered-canon; apart = canon-fresh }
