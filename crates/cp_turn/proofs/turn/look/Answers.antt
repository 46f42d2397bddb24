use Rattle.std.proofs.Common.{rules, ◌∙◌}
use Rattle.cp_turn.proofs.Turns.{looks_at}
use Rattle.cp_turn.proofs.Steps.{took, holds_value}
use Rattle.cp_turn.proofs.turn.look.Goals as goal

pub load-requires : goal.load-requires
load-requires g c = (search rules, search rules, looks_at _ _ _ _ _ _ _ _ _ _ _ _ c.requires.waits.5)

pub exchange-requires : goal.exchange-requires
exchange-requires g c = let w = c.requires.waits in let l = g.T.Ledgered in (
  search rules,
  holds_value l.by l.entries l.base w.3 c.args.seat.now.me c.load.new.seat.me (took l.by l.entries l.base c.args.seat.now.me c.load.new.seat.me c.load.result w.0 w.1 w.2 w.3 w.5 c.load.ensures.2 (c.if-load-ticket.true ∙ w.4)),
)
