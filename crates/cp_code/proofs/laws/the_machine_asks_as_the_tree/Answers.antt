use Rattle.cp_code.proofs.Walks.{asks_as_the_tree}
use Rattle.cp_code.proofs.laws.the_machine_asks_as_the_tree.Goals as goal

pub returns : goal.returns
returns c = asks_as_the_tree
