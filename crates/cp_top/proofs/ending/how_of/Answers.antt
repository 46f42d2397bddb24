use Rattle.std.proofs.Common.{◌∙◌, ap}
use Rattle.cp_top.specs.Ending.{how_in}
use Rattle.cp_top.proofs.Inside.{how-term, how-numbered}
use Rattle.cp_top.proofs.ending.how_of.Goals as goal

pub returns-clause-term : goal.returns-clause-term
returns-clause-term c = how-term c.how_in.result c.args.fact.now (c.how_in.ensures ∙ ap how_in c.cells.ensures.value) c.cells.ensures.term

pub returns-clause-numbered : goal.returns-clause-numbered
returns-clause-numbered c = how-numbered c.how_in.result c.args.fact.now (c.how_in.ensures ∙ ap how_in c.cells.ensures.value) c.cells.ensures.numbered
