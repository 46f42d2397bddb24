use Rattle.std.proofs.Common.{◌≡◌, ◌<◌, ◌+◌, ◌^◌, ap, length, arith, to_z, of_z, w64}
use Rattle.std.specs.Prelude.{ℤ, pos, ◌+ℤ◌}
use Rattle.std.proofs.lemmas.Int.{ints}
use Rattle.cp_fact.proofs.Rows.{placed_next}
use Rattle.cp_fact.proofs.pred.placed.Goals as goal

pub loop-i-preserved : goal.loop-i-preserved
loop-i-preserved c =
    let small : c.loop-i.i < 2 ^ 32 = omega (arith, c.loop-i-test.true, ap length c.as_slice-fact-items.ensures) in
    placed_next c.as_slice-fact-items.result.now c.loop-i.i c.fact-item.result c.in_ok-copy.field-0 (to_z w64 (of_z w64 (to_z w64 c.loop-i.i +ℤ pos 1))) c.loop-i.rows.items c.push.new.self.items
    c.loop-i-test.true c.fact-item.is (omega (arith, ints)) c.loop-i.invariant c.in_ok-copy.ensures c.in_ok-push.ensures.items
