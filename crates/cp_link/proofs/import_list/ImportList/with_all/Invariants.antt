use Rattle.std.proofs.Common.{◌≡◌, ◌++◌}
use Rattle.cp_link.proofs.import_list.ImportList.with_all.Given as goal

abbrev pub invariant-loop-pred : goal.invariant-loop-pred
invariant-loop-pred l = l.all ≡ l.initial.all ++ l.yielded
