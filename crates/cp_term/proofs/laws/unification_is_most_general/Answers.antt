use Rattle.std.proofs.Common.{[]}
use Rattle.cp_term.proofs.lemmas.Unifiers.{unify-exact, unify-general}
use Rattle.cp_term.proofs.lemmas.Solved.{unify-IsSolved}
use Rattle.cp_term.proofs.laws.unification_is_most_general.Goals as goal

pub returns : goal.returns
returns c = record {
  exact = unify-exact;
  general = λ a b s ha hb h. unify-general a b ha hb s h;
  solved = λ a b s h. unify-IsSolved [] a b s tt h;
}
