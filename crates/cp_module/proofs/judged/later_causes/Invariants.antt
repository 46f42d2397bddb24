use Rattle.std.proofs.Common.{ℕ, List, ◌∷◌, drop}
use Rattle.cp_read.specs.declared.clause.ReadClause.{ReadClause}
use Rattle.cp_module.specs.Above.{Knows}
use Rattle.cp_module.proofs.Reached.{Reached}
use Rattle.cp_module.proofs.judged.later_causes.Given as goal

abbrev pub invariant-loop-clause : goal.invariant-loop-clause
invariant-loop-clause l =
    (base : List ℕ) → (a : ReadClause) → (done : List ReadClause) → Knows l.initial.above (a ∷ done) → Reached base a done l.clauses l.above l.cause (drop l.clause-index l.clauses)
