use Rattle.std.proofs.Common.{◌≡◌, take}
use Rattle.cp_factindex.specs.Contents.{facts_in}
use Rattle.cp_factindex.specs.Inside.{placed_facts}
use Rattle.cp_factindex.proofs.pred.placed.Given as goal

abbrev pub invariant-loop-i : goal.invariant-loop-i
invariant-loop-i l = record {
  facts : facts_in l.facts.rows ≡ placed_facts (take l.i l.fact-items);
  whole : l.facts.whole ≡ l.facts.rows;
}
