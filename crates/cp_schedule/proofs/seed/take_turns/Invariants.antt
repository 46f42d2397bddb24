use Rattle.std.proofs.Common.{◌≡◌}
use Rattle.cp_schedule.specs.Record.{IsLater, IsReady, RecordLeads}
use Rattle.cp_schedule.specs.Turns.{generator_of}
use Rattle.cp_schedule.proofs.Seeding.{HasComeWith}
use Rattle.cp_schedule.proofs.seed.take_turns.Given as goal

abbrev pub invariant-loop : goal.invariant-loop
invariant-loop g l = record {
  later : IsLater g.M.Machine.code g.M.Rule.Asks.asks l.fn.shells.items l.shells.items l.fn.hall l.hall l.fn.port.entries l.port.entries;
  ready : IsReady g.M.Machine.code g.M.Rule.Asks.asks g.M.Rule.Asks.objects l.shells.items l.hall l.port.entries;
  come : RecordLeads g.M.Machine.code g.M.Rule.Asks.asks l.fn.shells.items l.shells.items l.fn.hall l.hall l.fn.port.entries l.port.entries (λ s before after. HasComeWith s (generator_of l.fn.seed) before l.words after);
  first : l.port.first ≡ l.fn.port.first;
}
