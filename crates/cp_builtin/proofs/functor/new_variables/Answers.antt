use Rattle.std.proofs.Common.{sym, subst}
use Rattle.cp_builtin.specs.Made.{AreNew}
use Rattle.cp_builtin.proofs.NewLaws.{none_yet, one_more}
use Rattle.cp_builtin.proofs.functor.new_variables.Goals as goal

pub variables-init : goal.variables-init
variables-init c = subst (AreNew 0 c.args.heap.now c.args.heap.now) (sym c.new-refs.ensures) (none_yet c.args.heap.now)

pub variables-preserved : goal.variables-preserved
variables-preserved c =
    let made = c.in_ok-variable.ensures in
    one_more c.variables.counter c.args.heap.now c.variables.heap c.variable.new.self c.variables.refs c.push.new.self c.in_ok-variable.field-0 c.variables.invariant
    made.extends made.bindings made.variables made.live made.term c.in_ok-push.ensures.ok
