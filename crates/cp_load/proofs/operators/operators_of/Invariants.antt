use Rattle.std.proofs.Common.{◌≡◌, map}
use Rattle.cp_load.specs.Loading.{ops_of_part}
use Rattle.cp_load.proofs.operators.operators_of.Given as goal

abbrev pub invariant-loop-part : goal.invariant-loop-part
invariant-loop-part l = l.ops ≡ map ops_of_part l.yielded
