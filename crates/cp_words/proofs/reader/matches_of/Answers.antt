use Rattle.cp_words.proofs.Numerals.{and_left}
use Rattle.cp_words.proofs.reader.matches_of.Goals as goal

pub returns-in-Ok-clause-ok : goal.returns-in-Ok-clause-ok
returns-in-Ok-clause-ok c = (c.in-Ok.ensures.matches (and_left _ _ c.requires)).0
