use Rattle.std.proofs.Common.{◌∙◌, ◌<◌, ◌+◌, ◌^◌, sym, arith, to_z, of_z, w64}
use Rattle.std.specs.Prelude.{pos, ◌+ℤ◌}
use Rattle.std.proofs.lemmas.Int.{ints}
use Rattle.cp_factindex.proofs.Opening.{placed_next, placed_below}
use Rattle.cp_factindex.proofs.pred.placed.Goals as goal

pub put_back-requires-clause-back : goal.put_back-requires-clause-back
put_back-requires-clause-back c =
    let small : c.loop-i.i + 1 < 2 ^ 63 = omega (arith, c.loop-i-test.true) in
    placed_below c.as_slice-fact-items.result.now c.loop-i.i (to_z w64 (of_z w64 (to_z w64 c.loop-i.i +ℤ pos 1))) c.loop-i.facts.rows c.loop-i-test.true (omega (arith, ints)) c.loop-i.invariant.facts

pub loop-i-preserved : goal.loop-i-preserved
loop-i-preserved c =
    let small : c.loop-i.i + 1 < 2 ^ 63 = omega (arith, c.loop-i-test.true) in
    record {
      facts = placed_next c.as_slice-fact-items.result.now c.loop-i.i c.fact-item.result c.in_ok-copy.field-0 (to_z w64 (of_z w64 (to_z w64 c.loop-i.i +ℤ pos 1))) c.loop-i.facts.rows c.show.new.self.rows
          c.loop-i-test.true c.fact-item.is (omega (arith, ints)) c.loop-i.invariant.facts c.in_ok-copy.ensures (c.show.ensures.rows ∙ c.in_ok-put_back.ensures.whole);
      whole = c.show.ensures.whole ∙ sym c.show.ensures.rows;
    }
