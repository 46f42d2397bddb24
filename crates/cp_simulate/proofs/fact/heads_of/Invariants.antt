use Rattle.std.proofs.Common.{◌≡◌, map, take}
use Rattle.cp_code.specs.declared.clause.Clause.{Clause}
use Rattle.cp_code.specs.Clauses.{head_of}
use Rattle.cp_simulate.proofs.fact.heads_of.Given as goal

abbrev pub invariant-loop-clause : goal.invariant-loop-clause
invariant-loop-clause l = l.heads ≡ map (λ (c : Clause). head_of c.whole) (take l.clause-index l.clauses)
