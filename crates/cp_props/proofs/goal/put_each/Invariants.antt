use Rattle.std.proofs.Common.{◌≡◌, ◌++◌, take}
use Rattle.cp_lists.specs.Places.{instances}
use Rattle.cp_props.specs.Demands.{of_each, demands_shown, AreDemands}
use Rattle.cp_props.proofs.goal.put_each.Given as goal

abbrev pub invariant-elements : goal.invariant-elements
invariant-elements l = record {
  demands : AreDemands l.heap l.demands;
  put : demands_shown l.heap l.demands ≡ demands_shown l.heap l.initial.demands ++ of_each l.name (instances l.heap (take l.element-index l.element-items));
}
