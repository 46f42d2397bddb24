use Rattle.cp_unify.specs.Steps.{IsUnifying}
use Rattle.cp_unify.proofs.unification.unify_since.Given as goal

abbrev pub invariant-turns : goal.invariant-turns
invariant-turns l = IsUnifying l.fn.heap l.heap l.fn.a.at l.fn.b.at l.horizon l.pairs.items
