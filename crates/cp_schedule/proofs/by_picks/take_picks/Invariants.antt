use Rattle.std.proofs.Common.{◌≡◌}
use Rattle.std.specs.Prelude.{take}
use Rattle.cp_schedule.specs.Record.{IsLater, IsReady, RecordLeads}
use Rattle.cp_schedule.specs.Turns.{RunsBy}
use Rattle.cp_schedule.proofs.by_picks.take_picks.Given as goal

abbrev pub invariant-loop-place : goal.invariant-loop-place
invariant-loop-place g l = record {
  later : IsLater g.M.Machine.code g.M.Rule.Asks.asks l.fn.shells.items l.shells.items l.fn.hall l.hall l.fn.port.entries l.port.entries;
  ready : IsReady g.M.Machine.code g.M.Rule.Asks.asks g.M.Rule.Asks.objects l.shells.items l.hall l.port.entries;
  taken : RecordLeads g.M.Machine.code g.M.Rule.Asks.asks l.fn.shells.items l.shells.items l.fn.hall l.hall l.fn.port.entries l.port.entries (λ s before after. RunsBy s before (take l.place l.picks) after);
  first : l.port.first ≡ l.fn.port.first;
}
