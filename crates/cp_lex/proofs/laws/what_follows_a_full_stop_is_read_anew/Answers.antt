use Rattle.cp_lex.proofs.lemmas.StopLaws.{read_anew}
use Rattle.cp_lex.proofs.laws.what_follows_a_full_stop_is_read_anew.Goals as goal

pub returns : goal.returns
returns c = read_anew
