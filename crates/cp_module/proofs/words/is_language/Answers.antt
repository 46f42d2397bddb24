use Rattle.std.proofs.Common.{◌∙◌}
use Rattle.cp_module.proofs.WordLaws.{by_words}
use Rattle.cp_module.proofs.words.is_language.Goals as goal

pub returns : goal.returns
returns c = c.is_one_by_words.ensures ∙ by_words c.args.name.now c.args.arity
