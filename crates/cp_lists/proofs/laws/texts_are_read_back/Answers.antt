use Rattle.cp_lists.proofs.lemmas.ReadBack.{text_back, number_back}
use Rattle.cp_lists.proofs.laws.texts_are_read_back.Goals as goal

pub returns-clause-texts : goal.returns-clause-texts
returns-clause-texts c = text_back

pub returns-clause-numbers : goal.returns-clause-numbers
returns-clause-numbers c = number_back
