use Rattle.std.proofs.Common.{◌≡◌, true, List, ◌++◌}
use Rattle.std.specs.List.{list_all}
use Rattle.cp_call.specs.declared.item.Item.{Item}
use Rattle.cp_call.specs.Added.{Leads}
use Rattle.cp_call.specs.Life as life
use Rattle.cp_shell.specs.Stage.{IsAt}
use Rattle.cp_shell.specs.Parked.{is_remote}
use Rattle.cp_shell.proofs.due.call_due.Given as goal

abbrev pub invariant-loop : goal.invariant-loop
invariant-loop g l = record {
  code : g.M.Machine.code l.machine ≡ g.M.Machine.code l.fn.machine;
  called : (calls : List Item) × (l.items.items ≡ l.fn.items.items ++ calls) × (list_all is_remote calls ≡ true) × Leads g.C.Caller.went l.fn.caller calls l.caller;
  lives : life.IsWorkersLife (g.M.Rule.Asks.asks (g.M.Machine.code l.fn.machine)) l.fn.items.items → life.IsWorkersLife (g.M.Rule.Asks.asks (g.M.Machine.code l.fn.machine)) l.items.items;
  at : IsAt (g.M.Rule.Asks.asks (g.M.Machine.code l.machine)) (g.M.Rule.Asks.objects (g.M.Machine.code l.machine)) (g.M.Machine.continuation l.machine) (g.M.Machine.failed l.machine) (life.last_stage (g.M.Rule.Asks.asks (g.M.Machine.code l.machine)) life.Idle l.items.items) l.stage;
}
