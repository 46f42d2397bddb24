use Rattle.std.proofs.Common.{◌≡◌, suc, drop}
use Rattle.cp_code.specs.Tree.{is_among}
use Rattle.cp_back.proofs.catching.may_catch.Given as goal

abbrev pub invariant-loop-number : goal.invariant-loop-number
invariant-loop-number l = is_among (suc l.level) l.number-items ≡ is_among (suc l.level) (drop l.number-index l.number-items)
