use Rattle.std.proofs.Common.{◌≡◌, ◌++◌}
use Rattle.cp_factindex.specs.Contents.{parked_in}
use Rattle.cp_factindex.proofs.pred.parked_of.Given as goal

abbrev pub invariant-loop-waiter : goal.invariant-loop-waiter
invariant-loop-waiter l = parked_in l.fn.rows.entries ≡ l.parked ++ parked_in l.waiter-iterator
