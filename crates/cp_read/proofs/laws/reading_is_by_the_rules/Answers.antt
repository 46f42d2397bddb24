use Rattle.cp_read.proofs.lemmas.Sound.{sound_clause}
use Rattle.cp_read.proofs.lemmas.Complete.{complete_clause}
use Rattle.cp_read.specs.Derivation.{alone}
use Rattle.cp_read.proofs.laws.reading_is_by_the_rules.Goals as goal

pub returns : goal.returns
returns c = λ ops cells ls rest. (λ h. sound_clause ops ls (alone cells rest) h, λ d. complete_clause ops cells ls rest d)
