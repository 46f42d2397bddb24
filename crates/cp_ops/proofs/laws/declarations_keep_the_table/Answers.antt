use Rattle.cp_ops.proofs.lemmas.DeclarationLaws.{after_all-IsTable}
use Rattle.cp_ops.proofs.laws.declarations_keep_the_table.Goals as goal

pub returns : goal.returns
returns c = after_all-IsTable
