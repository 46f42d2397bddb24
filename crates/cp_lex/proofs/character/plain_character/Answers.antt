use Rattle.std.proofs.Common.{arith}
use Rattle.bstr.proofs.lemmas.PieceLemmas.{size-within}
use Rattle.cp_lex.proofs.character.plain_character.Goals as goal

pub overflow_add-result : goal.overflow_add-result
overflow_add-result c = omega (arith, size-within c.args.text.now)
