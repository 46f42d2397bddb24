use Rattle.std.proofs.Common.{rules}
use Rattle.cp_turn.proofs.Between.{is_outside}
use Rattle.cp_turn.proofs.Closing.{joins_at}
use Rattle.cp_turn.proofs.ending.join_pass.Goals as goal

pub join_seat-requires : goal.join_seat-requires
join_seat-requires g c =
    let i = c.pass.inside in
    let h = is_outside g.T.Ledgered.by i.seat.table_id i.number i.turns i.seat.me c.args.pass c.pass.invariant c.pass.view_is c.requires.own.1 in (
      search rules,
      search rules,
      (λ k. (h.2 k).1),
      search rules,
      joins_at _ _ _ _ _ _ _ _ _ _ _ _ _ _ (λ k. (c.requires.seat.2 k).0) (λ k. (h.2 k).0),
    )
