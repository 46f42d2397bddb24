use Rattle.std.proofs.Common.{rules, arith, ℕ, ◌-◌}
use Rattle.cp_turn.proofs.Between.{made_more, one_left_less}
use Rattle.cp_turn.proofs.setup.split_passes.Goals as goal

pub loop-i-preserved : goal.loop-i-preserved
loop-i-preserved g c =
    let i = c.loop-i.invariant in
    let n : ℕ = c.loop-i.i in
    let more = made_more g.T.Ledgered.by c.args.seat.table_id c.loop-i.seat.table_id c.args.seat.me c.loop-i.seat.me n c.args.callers i.2.0 c.loop-i.passes.items c.push_reserved.new.self.items c.split_pass.result
    i.0 i.2.1 i.2.2 i.3 i.6 c.split_pass.ensures.pass c.push_reserved.ensures.items in (
      search rules,
      omega arith,
      (i.2.0, i.2.1, one_left_less g.T.Ledgered.by c.split_pass.new.seat.me n c.args.callers i.2.0 (c.split_pass.ensures.maker (c.args.callers - n) n i.2.0 i.2.2)),
      more.0,
      search rules,
      search rules,
      more.1,
    )
