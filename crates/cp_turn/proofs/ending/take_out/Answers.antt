use Rattle.cp_turn.proofs.Closing.{closes}
use Rattle.cp_turn.proofs.ending.take_out.Goals as goal

pub unreachable-requires : goal.unreachable-requires
unreachable-requires g c = let l = g.T.Ledgered in let k = c.args.table.shared.key in let a = c.requires.all in
    (closes l.by l.entries l.base k.callers (l.base k.value.value) c.args.seat.id c.args.seat.me.0 a.0 _ _ c.take-value.result a.1 c.close_with-closed.ensures.values.2 c.take-value.ensures.value).0 c.in-None.is

pub returns-clause-base : goal.returns-clause-base
returns-clause-base g c = let l = g.T.Ledgered in let k = c.args.table.shared.key in let a = c.requires.all in
    ((closes l.by l.entries l.base k.callers (l.base k.value.value) c.args.seat.id c.args.seat.me.0 a.0 _ _ c.take-value.result a.1 c.close_with-closed.ensures.values.2 c.take-value.ensures.value).1 c.in-Some.value c.in-Some.is).0

pub returns-clause-seen_lists : goal.returns-clause-seen_lists
returns-clause-seen_lists g c = let l = g.T.Ledgered in let k = c.args.table.shared.key in let a = c.requires.all in
    ((closes l.by l.entries l.base k.callers (l.base k.value.value) c.args.seat.id c.args.seat.me.0 a.0 _ _ c.take-value.result a.1 c.close_with-closed.ensures.values.2 c.take-value.ensures.value).1 c.in-Some.value c.in-Some.is).1

pub returns-clause-others : goal.returns-clause-others
returns-clause-others g c = let l = g.T.Ledgered in let k = c.args.table.shared.key in let a = c.requires.all in
    ((closes l.by l.entries l.base k.callers (l.base k.value.value) c.args.seat.id c.args.seat.me.0 a.0 _ _ c.take-value.result a.1 c.close_with-closed.ensures.values.2 c.take-value.ensures.value).1 c.in-Some.value c.in-Some.is).2
