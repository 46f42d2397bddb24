use Rattle.std.proofs.Common.{◌∙◌}
use Rattle.cp_schedule.specs.Turns.{generator_of}
use Rattle.cp_schedule.proofs.Turns.{later_on, ready_on}
use Rattle.cp_schedule.proofs.Seeding.{comes_with, comes_to_end}
use Rattle.cp_schedule.proofs.seed.take_turns.Goals as goal

pub returns-in_err-take_drawn_turn-clause-later : goal.returns-in_err-take_drawn_turn-clause-later
returns-in_err-take_drawn_turn-clause-later g c = later_on g.M.Machine.code g.M.Rule.Asks.asks c.args.shells.now.items c.loop.shells.items c.take_drawn_turn.new.shells.items c.args.hall.now c.loop.hall c.take_drawn_turn.new.hall c.args.port.now.entries c.loop.port.entries c.take_drawn_turn.new.port.entries c.loop.invariant.later c.take_drawn_turn.ensures.later

pub returns-then-branch-clause-later : goal.returns-then-branch-clause-later
returns-then-branch-clause-later g c = later_on g.M.Machine.code g.M.Rule.Asks.asks c.args.shells.now.items c.loop.shells.items c.take_drawn_turn.new.shells.items c.args.hall.now c.loop.hall c.take_drawn_turn.new.hall c.args.port.now.entries c.loop.port.entries c.take_drawn_turn.new.port.entries c.loop.invariant.later c.take_drawn_turn.ensures.later

pub loop-preserved : goal.loop-preserved
loop-preserved g c = record {
  later = later_on g.M.Machine.code g.M.Rule.Asks.asks c.args.shells.now.items c.loop.shells.items c.take_drawn_turn.new.shells.items c.args.hall.now c.loop.hall c.take_drawn_turn.new.hall c.args.port.now.entries c.loop.port.entries c.take_drawn_turn.new.port.entries c.loop.invariant.later c.take_drawn_turn.ensures.later;
  ready = ready_on g.M.Machine.code g.M.Rule.Asks.asks g.M.Rule.Asks.objects c.loop.shells.items c.take_drawn_turn.new.shells.items c.loop.hall c.take_drawn_turn.new.hall c.loop.port.entries c.take_drawn_turn.new.port.entries c.loop.invariant.ready c.take_drawn_turn.ensures.later;
  come = comes_with g.M.Machine.code g.M.Rule.Asks.asks c.args.shells.now.items c.loop.shells.items c.take_drawn_turn.new.shells.items c.args.hall.now c.loop.hall c.take_drawn_turn.new.hall c.args.port.now.entries c.loop.port.entries c.take_drawn_turn.new.port.entries (generator_of c.args.seed) c.loop.words c.take_drawn_turn.new.words c.loop.invariant.later c.loop.invariant.come
      (c.in_ok-take_drawn_turn.ensures.turn c.if-branch.false).0 (c.in_ok-take_drawn_turn.ensures.turn c.if-branch.false).1;
  first = c.take_drawn_turn.ensures.first ∙ c.loop.invariant.first;
}

pub returns-then-branch-clause-run : goal.returns-then-branch-clause-run
returns-then-branch-clause-run g c = comes_to_end g.M.Machine.code g.M.Rule.Asks.asks c.args.shells.now.items c.loop.shells.items c.take_drawn_turn.new.shells.items c.args.hall.now c.loop.hall c.take_drawn_turn.new.hall c.args.port.now.entries c.loop.port.entries c.take_drawn_turn.new.port.entries (generator_of c.args.seed) c.loop.words c.loop.invariant.later c.loop.invariant.come (c.in_ok-take_drawn_turn.ensures.ended c.if-branch.true)
