use Rattle.cp_call.specs.Progress.{beginning}
use Rattle.cp_schedule.specs.Turns.{generator_of}
use Rattle.cp_schedule.proofs.Same.{same_run}
use Rattle.cp_schedule.proofs.laws.a_seed_has_one_outcome.Goals as goal

pub returns : goal.returns
returns c s seed steps workers puts a b h g pa pb = same_run s puts (generator_of seed) h.0 g.0 (beginning s steps workers) a b h.1 g.1 pa pb
