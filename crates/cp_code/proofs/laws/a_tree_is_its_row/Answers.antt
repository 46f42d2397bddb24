use Rattle.cp_code.proofs.Fixed.{tree_is_row}
use Rattle.cp_code.proofs.laws.a_tree_is_its_row.Goals as goal

pub returns : goal.returns
returns c = tree_is_row
