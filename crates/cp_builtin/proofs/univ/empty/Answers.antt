use Rattle.std.proofs.Common.{◌∙◌, ap, subst}
use Rattle.std.specs.Prelude.{IfOk, codes}
use Rattle.cp_term.specs.Substitution.{apply}
use Rattle.cp_heap.specs.State.{substitution}
use Rattle.cp_goal.specs.Errors.{domain_error}
use Rattle.cp_goal.specs.Builtins.{Raises}
use Rattle.cp_builtin.specs.declared.ended.Ended.{Ended}
use Rattle.cp_builtin.specs.Ends.{HasEnded}
use Rattle.cp_builtin.proofs.KindLaws.{apply-word}
use Rattle.cp_builtin.proofs.univ.empty.Goals as goal

pub returns-clause-ended : goal.returns-clause-ended
returns-clause-ended c =
    subst (λ culprit. IfOk c.domain_error.result (λ (ended : Ended). HasEnded c.domain_error.new.heap ended (Raises (domain_error (codes "non_empty_list") culprit))))
    (ap (apply (substitution c.atom.new.heap)) c.in_ok-culprit.ensures.term ∙ apply-word (substitution c.atom.new.heap) (codes "[]"))
    c.domain_error.ensures.ended
