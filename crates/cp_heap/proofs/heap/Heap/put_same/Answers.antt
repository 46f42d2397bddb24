use Rattle.std.proofs.Common.{◌∙◌}
use Rattle.cp_term.proofs.lemmas.NumberingLaws.{fresh-zero}
use Rattle.cp_heap.proofs.heap.Heap.put_same.Goals as goal

pub returns-clause-term : goal.returns-clause-term
returns-clause-term c = c.in_ok-put.ensures.term ∙ fresh-zero c.args.cells.now
