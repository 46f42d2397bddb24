use Rattle.std.proofs.Common.{◌≡◌, ℕ, ◌<◌, Some, true}
use Rattle.std.specs.Prelude.{slice_get}
use Rattle.cp_shell.specs.Shell.{ShellView}
use Rattle.cp_schedule.specs.Awake.{is_parked_now}
use Rattle.cp_crew.proofs.parked.all_parked.Given as goal

abbrev pub invariant-loop-i : goal.invariant-loop-i
invariant-loop-i g l = (k : ℕ) (s : ShellView g.row.M.Denot) → k < l.i → slice_get l.shells k ≡ Some s → is_parked_now l.hall s.number s.items ≡ true
