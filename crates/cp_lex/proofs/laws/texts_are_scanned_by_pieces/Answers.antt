use Rattle.cp_lex.proofs.lemmas.ScanLaws.{step}
use Rattle.cp_lex.proofs.laws.texts_are_scanned_by_pieces.Goals as goal

pub returns : goal.returns
returns c = step
