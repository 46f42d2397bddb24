use Rattle.cp_heap.specs.State.{AreRefs}
use Rattle.cp_tests_run.proofs.builtins.arguments_of.Given as goal

abbrev pub invariant-arguments : goal.invariant-arguments
invariant-arguments l = AreRefs l.heap l.refs
