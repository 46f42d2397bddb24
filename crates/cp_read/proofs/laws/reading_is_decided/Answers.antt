use Rattle.cp_read.proofs.lemmas.Settles.{decided}
use Rattle.cp_read.proofs.laws.reading_is_decided.Goals as goal

pub returns : goal.returns
returns c = decided
