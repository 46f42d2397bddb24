use Rattle.std.proofs.Common.{◌≡◌, take}
use Rattle.cp_fact.specs.Inside.{placed_facts}
use Rattle.cp_fact.proofs.pred.placed.Given as goal

abbrev pub invariant-loop-i : goal.invariant-loop-i
invariant-loop-i l = l.rows.items ≡ placed_facts (take l.i l.fact-items)
