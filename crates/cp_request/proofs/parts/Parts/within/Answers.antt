use Rattle.std.proofs.Common.{sym, ◌∙◌}
use Rattle.cp_request.proofs.BodyLaws.{made_within, made_wrong}
use Rattle.cp_request.proofs.parts.Parts.within.Goals as goal

pub returns-then-is_atom : goal.returns-then-is_atom
returns-then-is_atom c = made_within c.args.heap.now c.args.at c.args.pair c.requires.pair c.requires.other c.requires.colon (sym c.is_atom.ensures ∙ c.if-is_atom.true)

pub returns-else-is_atom : goal.returns-else-is_atom
returns-else-is_atom c = made_wrong c.args.heap.now c.args.at c.args.pair c.requires.pair c.requires.other c.requires.colon (sym c.is_atom.ensures ∙ c.if-is_atom.false)
