use Rattle.std.proofs.Common.{◌≡◌, ◌++◌, map, drop}
use Rattle.std.specs.List.{filter_map}
use Rattle.cp_code.specs.Programs.{check_on}
use Rattle.cp_props.specs.Checks.{check_shown}
use Rattle.cp_props.proofs.asserted.checks_among.Given as goal

abbrev pub invariant-loop-assertion : goal.invariant-loop-assertion
invariant-loop-assertion l =
    map check_shown l.checks ++ filter_map (check_on l.pred) (drop l.assertion-index l.assertions) ≡ filter_map (check_on l.pred) l.assertions
