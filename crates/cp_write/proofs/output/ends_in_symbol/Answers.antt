use Rattle.std.proofs.Common.{◌∙◌, ap}
use Rattle.cp_char.specs.Characters.{is_symbol}
use Rattle.cp_write.proofs.lemmas.NameLaws.{last-some}
use Rattle.cp_write.proofs.output.ends_in_symbol.Goals as goal

pub returns-in-Some : goal.returns-in-Some
returns-in-Some c = c.is_symbol.ensures ∙ ap is_symbol (last-some c.args.text.now c.in-Some.byte.now c.in-Some.ensures.value)
