use Rattle.cp_simulate.specs.Runs.{setup}
use Rattle.cp_simulate.proofs.laws.a_seed_has_one_outcome.Goals as goal

pub returns : goal.returns
returns c p seed steps engines puts a b h g pa pb = c.a_seed_has_one_outcome.ensures (setup p steps) seed steps engines puts a b h.turns g.turns pa pb
