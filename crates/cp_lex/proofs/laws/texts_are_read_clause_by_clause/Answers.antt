use Rattle.cp_lex.proofs.lemmas.JoinLaws.{read_clause_by_clause}
use Rattle.cp_lex.proofs.laws.texts_are_read_clause_by_clause.Goals as goal

pub returns : goal.returns
returns c = read_clause_by_clause
