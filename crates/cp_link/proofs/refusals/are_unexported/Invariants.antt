use Rattle.std.proofs.Common.{◌≡◌, drop}
use Rattle.std.specs.Prelude.{not}
use Rattle.std.specs.List.{list_any}
use Rattle.cp_link.specs.Exported.{is_exported_in}
use Rattle.cp_link.proofs.refusals.are_unexported.Given as goal

abbrev pub invariant-loop-goal : goal.invariant-loop-goal
invariant-loop-goal l = list_any (λ g. not (is_exported_in l.all l.active g)) (drop l.goal-index l.goals) ≡ list_any (λ g. not (is_exported_in l.all l.active g)) l.goals
