use Rattle.cp_request.proofs.BodyLaws.{made_other}
use Rattle.cp_request.proofs.parts.Parts.of_compound.Goals as goal

pub returns : goal.returns
returns c = made_other c.args.heap.now c.args.at c.requires.compound c.in_default.ensures c.in_default-pair_of.ensures.pair
