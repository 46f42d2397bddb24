use Rattle.std.proofs.Common.{sym, ap}
use Rattle.cp_goal.specs.Builtins.{Raises}
use Rattle.cp_builtin.proofs.KindLaws.{kind_of_two}
use Rattle.cp_builtin.proofs.errors.domain_error.Goals as goal

pub returns-clause-ended : goal.returns-clause-ended
returns-clause-ended c =
    let first = c.in_ok-domain.ensures in
    let made = c.in_ok-kind.ensures in
    (made.live, ap Raises (sym (kind_of_two c.args.heap.now c.atom.new.heap c.with_two.new.heap _ c.args.domain.now _ _ first.term made.bindings c.args.culprit.at first.extends first.bindings c.requires made.term)))
