use Rattle.cp_read.proofs.lemmas.Complete.{derive_one}
use Rattle.cp_read.proofs.laws.rules_derive_no_second.Goals as goal

pub returns : goal.returns
returns c = derive_one
