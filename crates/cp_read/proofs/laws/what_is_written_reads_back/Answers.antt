use Rattle.cp_read.proofs.lemmas.ReadBackLaw.{reads_back_within_bounds}
use Rattle.cp_read.proofs.laws.what_is_written_reads_back.Goals as goal

pub returns : goal.returns
returns c = reads_back_within_bounds c.pieces_are_read.ensures
