use Rattle.cp_ops.proofs.lemmas.DeclarationLaws.{after_one-other_prefix, after_one-other_infix}
use Rattle.cp_ops.proofs.laws.declarations_change_no_other_name.Goals as goal

pub returns-clause-prefix : goal.returns-clause-prefix
returns-clause-prefix c = after_one-other_prefix

pub returns-clause-infix : goal.returns-clause-infix
returns-clause-infix c = after_one-other_infix
