use Rattle.cp_read.proofs.lemmas.PiecesRead.{pieces-read}
use Rattle.cp_read.proofs.laws.pieces_are_read.Goals as goal

pub returns : goal.returns
returns c = pieces-read c.texts_are_scanned_by_pieces.ensures
