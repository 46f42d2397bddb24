use Rattle.std.proofs.Common.{◌≡◌, map, drop}
use Rattle.cp_lists.specs.Places.{instances}
use Rattle.cp_code.specs.Checks as checks
use Rattle.cp_code.specs.Programs.{type_of}
use Rattle.cp_props.specs.Checks.{check_shown}
use Rattle.cp_props.proofs.broken.broken_call.Given as goal

abbrev pub invariant-loop-check : goal.invariant-loop-check
invariant-loop-check l =
    checks.broken_call (map type_of l.types) (map check_shown l.checks) (map check_shown l.check-items) (instances l.heap l.args)
    ≡ checks.broken_call (map type_of l.types) (map check_shown l.checks) (map check_shown (drop l.check-index l.check-items)) (instances l.heap l.args)
