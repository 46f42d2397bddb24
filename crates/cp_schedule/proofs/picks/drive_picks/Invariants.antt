use Rattle.std.proofs.Common.{◌≡◌}
use Rattle.std.specs.Prelude.{take}
use Rattle.cp_schedule.specs.Record.{IsLater, IsReady, RecordLeads}
use Rattle.cp_schedule.specs.Turns.{TakesPicks}
use Rattle.cp_schedule.proofs.picks.drive_picks.Given as goal

abbrev pub invariant-loop-pick : goal.invariant-loop-pick
invariant-loop-pick g l = record {
  later : IsLater g.M.Machine.code g.M.Rule.Asks.asks l.fn.shells.items l.shells.items l.fn.hall l.hall l.fn.port.entries l.port.entries;
  ready : IsReady g.M.Machine.code g.M.Rule.Asks.asks g.M.Rule.Asks.objects l.shells.items l.hall l.port.entries;
  picks : RecordLeads g.M.Machine.code g.M.Rule.Asks.asks l.fn.shells.items l.shells.items l.fn.hall l.hall l.fn.port.entries l.port.entries (λ s before after. TakesPicks s before (take l.pick-index l.picks) after);
  first : l.port.first ≡ l.fn.port.first;
}
