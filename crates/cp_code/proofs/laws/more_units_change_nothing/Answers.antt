use Rattle.cp_code.proofs.Units.{tree_grows}
use Rattle.cp_code.proofs.laws.more_units_change_nothing.Goals as goal

pub returns : goal.returns
returns c = tree_grows
