use Rattle.cp_lex.proofs.lemmas.InsideLaws.{piece-inside}
use Rattle.cp_lex.proofs.laws.pieces_are_inside.Goals as goal

pub returns : goal.returns
returns c = piece-inside
