use Rattle.cp_turn.proofs.Beginnings.{beginnings_compare}
use Rattle.cp_turn.proofs.laws.beginnings_are_comparable.Goals as goal

pub returns : goal.returns
returns g c = beginnings_compare
