use Rattle.std.proofs.Common.{sym, ◌∙◌}
use Rattle.cp_request.proofs.BodyLaws.{made_junction, made_pair}
use Rattle.cp_request.proofs.parts.Parts.of_pair.Goals as goal

pub returns-then-is_junction : goal.returns-then-is_junction
returns-then-is_junction c = made_junction c.args.heap.now c.args.at c.args.pair c.requires.pair (sym c.is_junction.ensures ∙ c.if-is_junction.true)

pub returns : goal.returns
returns c = made_pair c.args.heap.now c.args.at c.args.pair c.requires.pair (sym c.is_junction.ensures ∙ c.if-is_junction.false) (sym c.has_name.ensures ∙ c.if-has_name.false)
