use Rattle.std.proofs.Common.{sym, ap}
use Rattle.cp_goal.specs.Builtins.{Raises}
use Rattle.cp_builtin.proofs.KindLaws.{kind_of_one}
use Rattle.cp_builtin.proofs.errors.resource_error.Goals as goal

pub returns-clause-ended : goal.returns-clause-ended
returns-clause-ended c =
    let first = c.in_ok-resource.ensures in
    let made = c.in_ok-kind.ensures in
    (made.live, ap Raises (sym (kind_of_one c.args.heap.now c.atom.new.heap c.with_one.new.heap _ c.args.resource.now _ _ first.term made.bindings made.term)))
