use Rattle.std.proofs.Common.{◌≡◌, ◌++◌}
use Rattle.cp_factindex.specs.Contents.{facts_in}
use Rattle.cp_factindex.proofs.pred.facts_of.Given as goal

abbrev pub invariant-loop-place : goal.invariant-loop-place
invariant-loop-place l = facts_in l.fn.rows.entries ≡ l.facts ++ facts_in l.place-iterator
