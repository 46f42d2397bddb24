use Rattle.std.proofs.Common.{◌≡◌, map, take}
use Rattle.cp_props.specs.Checks.{check_shown}
use Rattle.cp_props.proofs.check.copy_checks.Given as goal

abbrev pub invariant-loop-check : goal.invariant-loop-check
invariant-loop-check l = map check_shown l.copy ≡ map check_shown (take l.check-index l.check-items)
