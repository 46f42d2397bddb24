use Rattle.std.proofs.Common.{rules}
use Rattle.cp_turn.proofs.Turns.{serves_at}
use Rattle.cp_turn.proofs.Steps.{given_is, served_is}
use Rattle.cp_turn.proofs.turn.serve.Goals as goal

pub fetch_add-requires : goal.fetch_add-requires
fetch_add-requires g c = let i = c.requires.inside in let l = g.T.Ledgered in (
  search rules,
  search rules,
  serves_at _ _ _ _ _ _ _ _ i.0 i.1 i.2 i.3 i.4 c.args.value i.6.0 (given_is l.by l.entries l.base c.args.seat.now.me c.give.new.seat.me c.args.value c.give.ensures.given _ i.5) i.6.1 i.6.2 i.7,
)

pub returns-clause-served : goal.returns-clause-served
returns-clause-served g c = let l = g.T.Ledgered in
    served_is l.by l.entries l.base c.args.seat.now.me c.give.new.seat.me c.args.value c.give.ensures.given c.fetch_add.new.seat.me c.fetch_add.ensures.2
