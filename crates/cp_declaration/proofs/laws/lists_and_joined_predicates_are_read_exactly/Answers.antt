use Rattle.cp_declaration.proofs.ListLaws.{lists-exact, names-exact}
use Rattle.cp_declaration.proofs.JoinedLaws.{joined-exact}
use Rattle.cp_declaration.proofs.laws.lists_and_joined_predicates_are_read_exactly.Goals as goal

pub returns : goal.returns
returns c = record { lists = lists-exact; names = names-exact; joined = joined-exact }
