use Rattle.cp_builtin.specs.Made.{AreNew}
use Rattle.cp_builtin.proofs.functor.new_variables.Given as goal

abbrev pub invariant-variables : goal.invariant-variables
invariant-variables l = AreNew l.counter l.fn.heap l.heap l.refs
