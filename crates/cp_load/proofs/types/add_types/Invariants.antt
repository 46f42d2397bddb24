use Rattle.cp_load.proofs.Typing.{AreTyped}
use Rattle.cp_load.proofs.types.add_types.Given as goal

abbrev pub invariant-loop-part : goal.invariant-loop-part
invariant-loop-part l = AreTyped l.fn.types l.parts l.names l.types l.part-index
