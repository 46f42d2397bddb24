use Rattle.std.proofs.Common.{sym, ◌∙◌}
use Rattle.cp_request.proofs.BodyLaws.{made_not, made_unary}
use Rattle.cp_request.proofs.parts.Parts.of_unary.Goals as goal

pub returns-then-has_name : goal.returns-then-has_name
returns-then-has_name c = made_not c.args.heap.now c.args.at c.args.argument c.requires.unary (sym c.has_name.ensures ∙ c.if-has_name.true)

pub returns-else-has_name : goal.returns-else-has_name
returns-else-has_name c = made_unary c.args.heap.now c.args.at c.args.argument c.requires.unary (sym c.has_name.ensures ∙ c.if-has_name.false)
