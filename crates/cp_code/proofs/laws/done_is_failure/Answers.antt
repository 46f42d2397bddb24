use Rattle.cp_code.proofs.Failing.{done_tree_is_failure, done_is_failure, failure_is_done}
use Rattle.cp_code.proofs.laws.done_is_failure.Goals as goal

pub returns : goal.returns
returns c = record { tree = done_tree_is_failure; fails = done_is_failure; only = failure_is_done }
