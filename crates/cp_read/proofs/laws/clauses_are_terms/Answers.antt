use Rattle.cp_read.proofs.lemmas.ClauseTerm.{clause_term}
use Rattle.cp_read.proofs.laws.clauses_are_terms.Goals as goal

pub returns : goal.returns
returns c = clause_term
