use Rattle.cp_ops.proofs.lemmas.DeclarationLaws.{after_all-prefix, after_all-infix}
use Rattle.cp_ops.proofs.laws.last_declaration_counts.Goals as goal

pub returns-clause-prefix : goal.returns-clause-prefix
returns-clause-prefix c = after_all-prefix

pub returns-clause-infix : goal.returns-clause-infix
returns-clause-infix c = after_all-infix
