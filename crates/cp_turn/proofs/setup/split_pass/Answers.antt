use Rattle.std.proofs.Common.{rules}
use Rattle.cp_turn.proofs.Between.{new_is_pass}
use Rattle.cp_turn.proofs.Making.{splits_at}
use Rattle.cp_turn.proofs.setup.split_pass.Goals as goal

pub split_seat-seat-requires : goal.split_seat-seat-requires
split_seat-seat-requires g c = let m = c.requires.maker in (search rules, search rules, splits_at _ _ _ _ _ _ _ m.0 m.1 m.2 (λ k. (m.3 k).0) m.4)

pub invariant_of-result : goal.invariant_of-result
invariant_of-result g c = let m = c.requires.maker in
    new_is_pass g.T.Ledgered.by c.args.number c.args.seat.now.me c.split_seat-seat.result.me m.0 m.1 m.2 m.3 c.split_seat-seat.ensures.4 m.5
