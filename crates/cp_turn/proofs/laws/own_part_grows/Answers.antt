use Rattle.cp_turn.proofs.Beginnings.{own_grows, own_others}
use Rattle.cp_turn.proofs.laws.own_part_grows.Goals as goal

pub returns-clause-callers : goal.returns-clause-callers
returns-clause-callers g c = own_grows

pub returns-clause-others : goal.returns-clause-others
returns-clause-others g c = own_others
