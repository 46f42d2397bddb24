use Rattle.cp_call.proofs.Going.{AreTied-append}
use Rattle.cp_call.proofs.event_laws.tied_engines_join.Goals as goal

pub returns : goal.returns
returns c = AreTied-append
