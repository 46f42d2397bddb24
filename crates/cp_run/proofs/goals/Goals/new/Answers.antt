use Rattle.std.proofs.Common.{ap}
use Rattle.cp_run.specs.Lists.{lists_of}
use Rattle.cp_run.proofs.goals.Goals.new.Goals as goal

pub returns : goal.returns
unfolding lists_of
returns c = ap lists_of c.new.ensures.items
