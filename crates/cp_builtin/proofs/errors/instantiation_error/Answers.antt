use Rattle.std.proofs.Common.{sym, ◌∙◌, ap}
use Rattle.cp_term.specs.Substitution.{apply}
use Rattle.cp_heap.specs.State.{substitution}
use Rattle.cp_goal.specs.Builtins.{Raises}
use Rattle.cp_builtin.proofs.KindLaws.{apply-word}
use Rattle.cp_builtin.proofs.errors.instantiation_error.Goals as goal

pub returns-clause-ended : goal.returns-clause-ended
returns-clause-ended c =
    let s = substitution c.atom.new.heap in
    (c.in_ok-kind.ensures.live, ap Raises (sym (ap (apply s) c.in_ok-kind.ensures.term ∙ apply-word s _)))
